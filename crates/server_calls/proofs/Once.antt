-- No second outcome: what a call answers and leaves is a function of the event and the lent bytes. Two results of one call agree in
-- number, length, output, table and workloads. Assumes nothing.
use Prim.Native.Nat.{ℕ}
use mathlib.Core.Path.{◌≡◌, sym, ap, ◌∙◌}
use Rattle.octets.specs.Bytes.{Bytes}
use Rattle.server.specs.Requests.{Event}
use Rattle.server.specs.Call.{Result, Made, call, make}

pub record Same (r q : Result) : Type 0 where
  pub number : r.number ≡ q.number
  pub length' : r.length' ≡ q.length'
  pub output : r.output ≡ q.output
  pub table : r.table ≡ q.table
  pub workloads : r.workloads ≡ q.workloads

pub call_once : (n : ℕ) (e : Event) (t w o : Bytes) (r q : Result) → r ≡ call n e t w o → q ≡ call n e t w o → Same r q
call_once n e t w o r q p g =
    let s : r ≡ q = p ∙ sym g in
    record {
      number = ap (λ (x : Result). x.number) s;
      length' = ap (λ (x : Result). x.length') s;
      output = ap (λ (x : Result). x.output) s;
      table = ap (λ (x : Result). x.table) s;
      workloads = ap (λ (x : Result). x.workloads) s;
    }

-- so for making a fresh table
pub make_once : (n : ℕ) (hub t w : Bytes) (r q : Made) → r ≡ make n hub t w → q ≡ make n hub t w → r ≡ q
make_once n hub t w r q p g = p ∙ sym g
