-- `packet_split::fits` meets its contract: by the cases of the rule, each test is that of the definition. Assumes nothing.
use Rattle.packet.specs.Arguments.{fits}
use Rattle.packet_split.proofs.fits.Goals as goal

pub returns-in-Text : goal.returns-in-Text
unfolding fits
returns-in-Text c = rw (c.in-Text.is, c.between.ensures, c.first_zero-end.ensures.0)

pub returns-in-Digits : goal.returns-in-Digits
unfolding fits
returns-in-Digits c = rw (c.in-Digits.is, c.between-in-Digits.ensures, c.all_within-all.ensures)

pub returns-in-Flag : goal.returns-in-Flag
unfolding fits
returns-in-Flag c = rw (c.in-Flag.is, c.equal-zero.ensures, c.equal-one.ensures)

pub returns-in-AnyText : goal.returns-in-AnyText
unfolding fits
returns-in-AnyText c = rw (c.in-AnyText.is, c.first_zero-end-in-AnyText.ensures.0)

pub returns-in-Opaque : goal.returns-in-Opaque
unfolding fits
returns-in-Opaque c = rw c.in-Opaque.is

pub returns-in-Absent : goal.returns-in-Absent
unfolding fits
returns-in-Absent c = rw c.in-Absent.is
