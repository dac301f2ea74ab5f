-- `show_names::labels` meets its contract: in each arm the shape is known, and its rows compute to the arm's array. Assumes nothing.
use Rattle.show_names.specs.Names.{label_rows, labels_of}
use Rattle.show_names.proofs.labels.Goals as goal

pub returns-in-Foreign : goal.returns-in-Foreign
unfolding label_rows labels_of
returns-in-Foreign c = rw c.in-Foreign.is

pub returns-in-Empty : goal.returns-in-Empty
unfolding label_rows labels_of
returns-in-Empty c = rw c.in-Empty.is

pub returns-in-Function : goal.returns-in-Function
unfolding label_rows labels_of
returns-in-Function c = rw c.in-Function.is

pub returns-in-Submission : goal.returns-in-Submission
unfolding label_rows labels_of
returns-in-Submission c = rw c.in-Submission.is

pub returns-in-WorkStatus : goal.returns-in-WorkStatus
unfolding label_rows labels_of
returns-in-WorkStatus c = rw c.in-WorkStatus.is

pub returns-in-WorkData : goal.returns-in-WorkData
unfolding label_rows labels_of
returns-in-WorkData c = rw c.in-WorkData.is

pub returns-in-Handle : goal.returns-in-Handle
unfolding label_rows labels_of
returns-in-Handle c = rw c.in-Handle.is

pub returns-in-Echo : goal.returns-in-Echo
unfolding label_rows labels_of
returns-in-Echo c = rw c.in-Echo.is

pub returns-in-OptionName : goal.returns-in-OptionName
unfolding label_rows labels_of
returns-in-OptionName c = rw c.in-OptionName.is

pub returns-in-ClientId : goal.returns-in-ClientId
unfolding label_rows labels_of
returns-in-ClientId c = rw c.in-ClientId.is

pub returns-in-Assignment : goal.returns-in-Assignment
unfolding label_rows labels_of
returns-in-Assignment c = rw c.in-Assignment.is

pub returns-in-UniqueAssignment : goal.returns-in-UniqueAssignment
unfolding label_rows labels_of
returns-in-UniqueAssignment c = rw c.in-UniqueAssignment.is

pub returns-in-Error : goal.returns-in-Error
unfolding label_rows labels_of
returns-in-Error c = rw c.in-Error.is

pub returns-in-StatusAnswer : goal.returns-in-StatusAnswer
unfolding label_rows labels_of
returns-in-StatusAnswer c = rw c.in-StatusAnswer.is
