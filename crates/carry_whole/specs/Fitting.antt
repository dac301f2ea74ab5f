-- What a plan must be to be carried out: its places and texts, and its numbers. Assumes nothing.
use Rattle.std.specs.Prelude.{◌≤◌, ◌<◌, ◌≡◌, length}
use Rattle.octets.specs.Bytes.{Bytes}
use Rattle.plan.specs.declared.Values.{Values}
use Rattle.plan.specs.declared.Change as C'
use Rattle.plan.specs.declared.Change.TheVariants as CV
use Rattle.server.specs.Sizes.{connection_count, function_count, job_count, name_size, unique_size, id_size}

-- what a change asks of its places and of the texts that it lays
abbrev pub Fitting : C'.Change → Bytes → Bytes → Bytes → Type 0
Fitting CV.Nothing a b d = 0 ≤ 0
Fitting (CV.Name q) a b d = (q < function_count) × (length a ≤ name_size)
Fitting (CV.Job p q) a b d = (p < job_count) × (q < function_count) × (length a ≤ name_size) × (length b ≤ unique_size)
Fitting (CV.Texts p) a b d = (p < job_count) × (length b ≤ 10) × (length d ≤ 10)
Fitting (CV.Id c) a b d = (c < connection_count) × (length a ≤ id_size)
Fitting (CV.Left c) a b d = c < connection_count

-- the numbers of a table of the product's size
pub record Sized (v : Values) : Type 0 where
  pub connections : length v.connections ≡ connection_count
  pub able : length v.able ≡ function_count
  pub rows : length v.rows ≡ job_count
