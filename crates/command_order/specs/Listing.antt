-- The places that a listing of the code stands for. Assumes nothing.
use Rattle.std.specs.Prelude.{ℕ, List, take}
use Rattle.command_order.specs.declared.Listing as L

abbrev pub listed : L.Listing → List ℕ
listed l = take l.count l.places
