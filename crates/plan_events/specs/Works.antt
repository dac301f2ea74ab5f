-- What a worker says, as the server's definition has it. Assumes nothing.
use Rattle.server.specs.Requests as A
use Rattle.plan_events.specs.declared.Work as W'
use Rattle.plan_events.specs.declared.Work.TheVariants as WV

abbrev pub work_of : W'.Work → A.Work
work_of WV.Tells = A.tells
work_of WV.Reports = A.reports
work_of WV.Ends = A.ends
work_of WV.Throws = A.throws
