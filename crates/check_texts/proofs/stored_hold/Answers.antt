-- `check_texts::stored_hold` meets its contract. First bytes and all bytes together are the rule; where a first byte is wrong, so is the
-- table. Assumes nothing.
use Rattle.std.proofs.Common.{refl, sym, ◌∙◌, true, false, true≢false}
use Rattle.server.specs.Layout.{numerators_at, denominators_at}
use Rattle.check_texts.proofs.Numbers.{begun, stored_hold}
use Rattle.check_texts.proofs.stored_hold.Goals as goal
use Rattle.check_texts.proofs.stored_hold.Goals.{then-numbers_begin, else-numbers_begin}

pub all_digits-requires : goal.all_digits-requires
all_digits-requires c =
    elim c.if-numbers_begin.branch [
      | then-numbers_begin w ↦ (
        c.requires.0,
        (
          begun c.args.table.now c.args.live.now numerators_at (sym c.numbers_begin.ensures ∙ w.if-numbers_begin.true),
          begun c.args.table.now c.args.live.now denominators_at (sym w.numbers_begin-then-numbers_begin.ensures ∙ sym w.value-is ∙ c.if-numbers_begin-2.true),
        ),
      )
      | else-numbers_begin w ↦ absurd (true≢false (sym c.if-numbers_begin-2.true ∙ w.value-is ∙ w.if-numbers_begin.false))
    ]

pub returns-then-numbers_begin-2 : goal.returns-then-numbers_begin-2
returns-then-numbers_begin-2 c =
    elim c.if-numbers_begin.branch [
      | then-numbers_begin w ↦
          stored_hold c.args.table.now c.args.live.now c.requires.1 c.requires.0 true true c.all_digits.result
          (sym w.if-numbers_begin.true ∙ c.numbers_begin.ensures) (sym c.if-numbers_begin-2.true ∙ w.value-is ∙ w.numbers_begin-then-numbers_begin.ensures) c.all_digits.ensures
      | else-numbers_begin w ↦ absurd (true≢false (sym c.if-numbers_begin-2.true ∙ w.value-is ∙ w.if-numbers_begin.false))
    ]

pub returns-else-numbers_begin-2 : goal.returns-else-numbers_begin-2
returns-else-numbers_begin-2 c =
    elim c.if-numbers_begin.branch [
      | then-numbers_begin w ↦
          c.if-numbers_begin-2.false
          ∙ stored_hold c.args.table.now c.args.live.now c.requires.1 c.requires.0 true false _
          (sym w.if-numbers_begin.true ∙ c.numbers_begin.ensures) (sym c.if-numbers_begin-2.false ∙ w.value-is ∙ w.numbers_begin-then-numbers_begin.ensures) refl
      | else-numbers_begin w ↦
          w.value-is ∙ w.if-numbers_begin.false
          ∙ stored_hold c.args.table.now c.args.live.now c.requires.1 c.requires.0 false _ _ (sym w.if-numbers_begin.false ∙ c.numbers_begin.ensures) refl refl
    ]
