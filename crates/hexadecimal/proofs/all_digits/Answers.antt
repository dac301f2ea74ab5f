-- `hexadecimal::all_digits` meets its contract: `all` asks each byte whether it is a digit. Assumes nothing.
use mathlib.Core.Path.{◌∙◌}
use borrow.Author.Rules.{rules}
use Rattle.std.proofs.lemmas.Iterator.{YieldsList-from_slice}
use Rattle.std.proofs.lemmas.Iterator.Search.{all_from_yields_List}
use Rattle.octets.proofs.Strings.{all_every}
use Rattle.hexadecimal.specs.Spelling.{is_digit}
use Rattle.hexadecimal.proofs.Reading.{digit_known}
use Rattle.hexadecimal.proofs.all_digits.Goals as goal

pub returns : goal.returns
returns c =
    all_from_yields_List is_digit _ _ _ c.all.ensures.ran (YieldsList-from_slice c.args.digits.now cc) (λ x b q k. search (rules, digit_known))
    ∙ all_every _ _
