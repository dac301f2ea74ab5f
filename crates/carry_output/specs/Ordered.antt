-- The bytes of the packets that an event sends, from the lent table and workloads before it: those of its order, and a NOOP for each
-- connection that the numbers wake. Assumes nothing.
use Rattle.std.specs.Prelude.{ℕ, List, ◌++◌, map}
use Rattle.octets.specs.Bytes.{Bytes}
use Rattle.server.specs.Sizes.{connection_count}
use Rattle.server.specs.Requests.{sends}
use Rattle.server.specs.Events.{Send, noop, to_wake_in}
use Rattle.server.specs.Server.{render}
use Rattle.server.specs.Layout.{table_of}
use Rattle.server.specs.Call.{sent_bytes, server_in}
use Rattle.plan.specs.declared.Order as O'
use Rattle.plan.specs.declared.Values.{Values}
use Rattle.plan.specs.Settling.{dropped_rows}
use Rattle.plan.specs.Parts.{ordered}

-- the bytes of these packets, of which copies are of packet p from connection c
unfoldable pub bytes_sent : ℕ → Bytes → Bytes → Bytes → List Send → Bytes
bytes_sent c p t w ss = sent_bytes (map (render (sends c p) (server_in connection_count t w)) ss)

-- those of an order
unfoldable pub order_bytes : O'.Order → ℕ → ℕ → Bytes → Bytes → Bytes → Bytes → Bytes
order_bytes order c kind h p t w = bytes_sent c p t w (ordered order connection_count c kind h (table_of connection_count t))

-- those of a whole event
unfoldable pub answer_bytes : O'.Order → Values → ℕ → ℕ → Bytes → Bytes → Bytes → Bytes → Bytes
answer_bytes order v c kind h p t w =
    bytes_sent c p t w (ordered order connection_count c kind h (table_of connection_count t) ++ map noop (to_wake_in v.able (dropped_rows v.rows) v.connections))
