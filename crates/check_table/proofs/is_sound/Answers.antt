-- `check_table::is_sound` meets its contract. The parts together are soundness; where one fails, so does it. Assumes nothing.
use Rattle.std.proofs.Common.{arith, sym, ◌∙◌, ◌&&◌}
use Rattle.table_passes.proofs.Tests.{and_same, and_fails}
use Rattle.check_rows.specs.Rows.{rows_mean}
use Rattle.check_numbers.specs.Numbers.{number_rules}
use Rattle.check_table.specs.Parts.{text_rules}
use Rattle.check_table.proofs.Sound.{sound_is, each_of}
use Rattle.check_table.proofs.is_sound.Goals as goal

pub numbers_hold-requires : goal.numbers_hold-requires
numbers_hold-requires c =
    let e = each_of c.args.table.now (sym c.bytes_hold.ensures ∙ c.if-not-bytes_hold.false) in
    (c.requires, e.0, e.1, c.marks4-live.ensures)

pub texts_hold-requires : goal.texts_hold-requires
texts_hold-requires c =
    let e = each_of c.args.table.now (sym c.bytes_hold.ensures ∙ c.if-not-bytes_hold.false) in
    (c.requires, e.2, e.3, c.marks4-live.ensures)

pub returns-then-numbers_hold : goal.returns-then-numbers_hold
returns-then-numbers_hold c =
    and_same (sym c.if-not-bytes_hold.false ∙ c.bytes_hold.ensures) (and_same (sym c.if-numbers_hold.true ∙ c.numbers_hold.ensures) c.texts_hold.ensures) ∙ sound_is c.args.table.now (λ k. omega (arith, c.type_inv.table k)) c.requires

pub returns-else-numbers_hold : goal.returns-else-numbers_hold
returns-else-numbers_hold c =
    c.if-numbers_hold.false
    ∙ and_same (sym c.if-not-bytes_hold.false ∙ c.bytes_hold.ensures) (and_fails (text_rules c.args.table.now) (sym c.if-numbers_hold.false ∙ c.numbers_hold.ensures)) ∙ sound_is c.args.table.now (λ k. omega (arith, c.type_inv.table k)) c.requires

pub returns-then-not-bytes_hold : goal.returns-then-not-bytes_hold
returns-then-not-bytes_hold c =
    and_fails ((rows_mean c.args.table.now && number_rules c.args.table.now) && text_rules c.args.table.now) (sym c.if-not-bytes_hold.true ∙ c.bytes_hold.ensures) ∙ sound_is c.args.table.now (λ k. omega (arith, c.type_inv.table k)) c.requires
