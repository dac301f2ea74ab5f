-- `show_job::sent_first` meets its contract: the first packet lies between its connection and its length. Assumes nothing.
use Rattle.show_job.proofs.Named.{first_inside, first_long, first_named, first_none}
use borrow.Author.Rules.{rules}
use Rattle.show_job.proofs.sent_first.Goals as goal

pub returns-then-sent-eq0 : goal.returns-then-sent-eq0
returns-then-sent-eq0 c = search (rules, first_none)

pub packet_length-length-requires : goal.packet_length-length-requires
packet_length-length-requires c = search (rules, first_long)

pub slice_bounds-job_named-end : goal.slice_bounds-job_named-end
slice_bounds-job_named-end c = search (rules, first_inside)

pub returns : goal.returns
returns c = search (rules, first_named)
