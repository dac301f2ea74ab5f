-- `packet_kinds::count_of` meets its contract: a computed test shows that each shape of an arm, by its number, has as many arguments as the
-- arm says. Assumes nothing.
use mathlib.Core.List.{[], ◌∷◌}
use lib.Dec.{lit≤}
use Rattle.packet.specs.Layout.{rules_of}
use Rattle.packet_kinds.proofs.Shapes.{count_arm}
use Rattle.packet_kinds.proofs.count_of.Goals as goal

pub returns-in-Foreign : goal.returns-in-Foreign
unfolding rules_of
returns-in-Foreign c = (count_arm c.args.shape (0 ∷ 1 ∷ []) tt c.in-Foreign.in-Foreign-own.keys1, lit≤ tt)

pub returns-in-Function : goal.returns-in-Function
unfolding rules_of
returns-in-Function c = (count_arm c.args.shape (2 ∷ 6 ∷ 7 ∷ 8 ∷ 9 ∷ []) tt c.in-Function.in-Function-own.keys2, lit≤ tt)

pub returns-in-WorkData : goal.returns-in-WorkData
unfolding rules_of
returns-in-WorkData c = (count_arm c.args.shape (5 ∷ 12 ∷ []) tt c.in-WorkData.in-WorkData-own.keys3, lit≤ tt)

pub returns-in-Submission : goal.returns-in-Submission
unfolding rules_of
returns-in-Submission c = (count_arm c.args.shape (3 ∷ 4 ∷ 10 ∷ []) tt c.in-Submission.in-Submission-own.keys4, lit≤ tt)

pub returns-in-UniqueAssignment : goal.returns-in-UniqueAssignment
unfolding rules_of
returns-in-UniqueAssignment c = (count_arm c.args.shape (11 ∷ []) tt c.in-UniqueAssignment.in-UniqueAssignment-own.keys5, lit≤ tt)

pub returns-in-StatusAnswer : goal.returns-in-StatusAnswer
unfolding rules_of
returns-in-StatusAnswer c = (count_arm c.args.shape (13 ∷ []) tt c.in-StatusAnswer.in-StatusAnswer-own.keys6, lit≤ tt)
