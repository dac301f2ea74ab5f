-- The fields of one row, one connection, of a step and of an ending, laid over the bytes of the product's table. Assumes nothing.
use Rattle.std.specs.Prelude.{ℕ, ◌+◌, ◌*◌, false, cond, Option, Some, None}
use Rattle.octets.specs.Bytes.{Bytes}
use Rattle.octets.specs.Put.{put}
use Rattle.sets.specs.Sets.{has}
use Rattle.server.specs.Sizes.{connection_count}
use Rattle.server.specs.Layout.{little, flag_byte, last_at, able_at, asleep_at}
use Rattle.carry_places.specs.Laying.{laid_row, laid_free, laid_flags, laid_forgotten, laid_each}
use Rattle.plan.specs.declared.Step as S'
use Rattle.plan.specs.declared.Step.TheVariants as SV
use Rattle.plan.specs.declared.Ending.{Ending}

-- ---- a step

-- a lean step
unfoldable pub laid_step : S'.Step → Bytes → Bytes
laid_step SV.Nothing b = b
laid_step (SV.Row p r) b = laid_row p r b
laid_step (SV.End p) b = laid_free p b
laid_step (SV.Grab p r c x) b = laid_row p r (laid_flags c x b)
laid_step (SV.New p r) b = laid_row p r (put last_at (little 4 r.serial) b)
laid_step (SV.Flags c x) b = laid_flags c x b
laid_step (SV.Able q s) b = put (able_at + 4 * q) (little 4 s) b
laid_step (SV.Reset c) b = b
laid_step (SV.Leave c) b = b

-- ---- an ending

-- connection c awake, if it belongs to the set
abbrev pub laid_if_woken : ℕ → ℕ → Bytes → Bytes
laid_if_woken s c b = cond (has s c) (put (asleep_at connection_count + c) (flag_byte false) b) b

abbrev pub laid_without : Option ℕ → Bytes → Bytes
laid_without None b = b
laid_without (Some q) b = laid_forgotten q b

unfoldable pub laid_ending : Ending → Bytes → Bytes
laid_ending e b = laid_without e.forgotten (laid_each (laid_if_woken e.woken) 0 connection_count b)
