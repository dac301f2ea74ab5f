-- The plan of each event, on a connection that may bring it. Each follows the server's definition of the same name. Assumes nothing.
use Rattle.std.specs.Prelude.{ℕ, suc, Bool, true, false, cond, get_or, ltb, Option, Some, None}
use Rattle.octets.specs.Bytes.{same}
use Rattle.sets.specs.Sets.{insert, remove}
use Rattle.server.specs.declared.Connection.{Connection}
use Rattle.server.specs.Table.{Table, with_holder, known, room_for, best, free_place, joined, just_opened, with_asleep, job_of}
use Rattle.server.specs.Requests.{Work, tells, reports, ends, throws, Request, reset, pre_sleep, echo, bad, can_do, cant_do, identify, grab, submit, work, get_status, option}
use Rattle.server.specs.Events.{exceptions_name, catching, submitted_by, held_job_of}
use Rattle.plan.specs.declared.Values as V'
use Rattle.plan.specs.declared.Change as C'
use Rattle.plan.specs.declared.Change.TheVariants as CV
use Rattle.plan.specs.declared.Order as O'
use Rattle.plan.specs.declared.Order.TheVariants as OV
use Rattle.plan.specs.Values.{values_of}
use Rattle.plan.specs.Parts.{connection_in, row_in, heard, new_row}
use Rattle.plan.specs.declared.Step as S'
use Rattle.plan.specs.declared.Step.TheVariants as SV
use Rattle.plan.specs.declared.Plan.{Plan}

abbrev pub refusal : ℕ → Plan
refusal n = record { number = n; step = SV.Nothing; change = CV.Nothing; order = OV.Nothing }

abbrev pub done : S'.Step → C'.Change → O'.Order → Plan
done s change order = record { number = 0; step = s; change = change; order = order }

-- connection c, asleep or awake
abbrev pub sleeping_row : Bool → ℕ → V'.Values → Connection
sleeping_row b c v = with_asleep b (connection_in v c)

unfoldable pub plan_can_do : Option ℕ → ℕ → V'.Values → Plan
plan_can_do None c v = refusal 11
plan_can_do (Some q) c v = done (SV.Able q (insert (get_or v.able q 0) c)) (CV.Name q) OV.Nothing

unfoldable pub plan_cant_do : Option ℕ → ℕ → V'.Values → Plan
plan_cant_do None c v = done SV.Nothing CV.Nothing OV.Nothing
plan_cant_do (Some q) c v = done (SV.Able q (remove (get_or v.able q 0) c)) CV.Nothing OV.Nothing

unfoldable pub plan_grab : Option ℕ → Bool → ℕ → V'.Values → Plan
plan_grab None uniq c v = done (SV.Flags c (sleeping_row false c v)) CV.Nothing OV.NoJob
plan_grab (Some p) uniq c v = done (SV.Grab p (with_holder (suc c) (row_in v p)) c (sleeping_row false c v)) CV.Nothing (OV.Assign uniq p)

unfoldable pub plan_new : Option ℕ → Option ℕ → ℕ → ℕ → Bool → ℕ → V'.Values → Plan
plan_new None place c priority background size v = refusal 11
plan_new (Some q) None c priority background size v = refusal 12
plan_new (Some q) (Some p) c priority background size v =
    cond (ltb v.last 4294967295)
    (done (SV.New p (new_row c priority background q size (suc v.last))) (CV.Job p q) (OV.Created (suc v.last)))
    (refusal 13)

unfoldable pub plan_join : ℕ → ℕ → Bool → V'.Values → Plan
plan_join p c background v = done (SV.Row p (submitted_by c background (row_in v p))) CV.Nothing (OV.Created (row_in v p).serial)

unfoldable pub plan_submit : Option ℕ → Option ℕ → Option ℕ → ℕ → ℕ → Bool → ℕ → V'.Values → Plan
plan_submit (Some p) room free c priority background size v = plan_join p c background v
plan_submit None room free c priority background size v = plan_new room free c priority background size v

unfoldable pub plan_work : Option ℕ → Work → V'.Values → Plan
plan_work None how v = refusal 14
plan_work (Some p) tells v = done SV.Nothing CV.Nothing (OV.Copies (row_in v p).listeners)
plan_work (Some p) reports v = done SV.Nothing (CV.Texts p) (OV.Copies (row_in v p).listeners)
plan_work (Some p) ends v = done (SV.End p) CV.Nothing (OV.Copies (row_in v p).listeners)
plan_work (Some p) throws v = done (SV.End p) CV.Nothing (OV.Told (row_in v p).listeners (heard v.connections (row_in v p).listeners) (row_in v p).serial)

abbrev pub plan_status : Option ℕ → Plan
plan_status None = done SV.Nothing CV.Nothing OV.Unknown
plan_status (Some p) = done SV.Nothing CV.Nothing (OV.Status p)

abbrev pub plan_option : Bool → ℕ → V'.Values → Plan
plan_option false c v = refusal 15
plan_option true c v = done (SV.Flags c (catching (connection_in v c))) CV.Nothing OV.Optioned

abbrev pub plan_identify : ℕ → Plan
plan_identify c = done SV.Nothing (CV.Id c) OV.Nothing

-- an open, and a close
abbrev pub plan_opening : ℕ → Plan
plan_opening c = done (SV.Flags c just_opened) CV.Nothing OV.Nothing

abbrev pub plan_closing : ℕ → Plan
plan_closing c = done (SV.Leave c) (CV.Left c) OV.Nothing

-- a request
unfoldable pub plan_served : ℕ → Request → Table → Plan
plan_served c (bad n) t = refusal n
plan_served c (can_do f) t = plan_can_do (room_for t.functions f) c (values_of t)
plan_served c (cant_do f) t = plan_cant_do (known t.functions f) c (values_of t)
plan_served c (identify i) t = plan_identify c
plan_served c reset t = done (SV.Reset c) CV.Nothing OV.Nothing
plan_served c pre_sleep t = done (SV.Flags c (sleeping_row true c (values_of t))) CV.Nothing OV.Nothing
plan_served c (grab uniq) t = plan_grab (best t c) uniq c (values_of t)
plan_served c (submit priority background f u size) t =
    plan_submit (joined t f u) (room_for t.functions f) (free_place t) c priority background size (values_of t)
plan_served c (work how kind h n d) t = plan_work (held_job_of t c h) how (values_of t)
plan_served c (get_status h) t = plan_status (job_of t h)
plan_served c (option name) t = plan_option (same name exceptions_name) c (values_of t)
plan_served c echo t = done SV.Nothing CV.Nothing OV.Echo
