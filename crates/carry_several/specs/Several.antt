-- One packet for each of several connections as bytes: the same packet, or WORK_FAIL for those who do not hear it. Assumes nothing.
use Rattle.std.specs.Prelude.{ℕ, cond, List, [], map}
use Rattle.octets.specs.Bytes.{Bytes}
use Rattle.sets.specs.Sets.{has}
use Rattle.lists.specs.Lists.{concat}
use Rattle.carry_packet.specs.Messages.{message}

-- the same packet to each of several connections, in their order
unfoldable pub messages : List ℕ → ℕ → Bytes → Bytes
messages ls kind d = concat (map (λ l. message l kind d) ls)

-- to connection l: a packet of this type with this data, if l is among those who hear it; otherwise WORK_FAIL with the data failed
unfoldable pub told_message : ℕ → ℕ → Bytes → Bytes → ℕ → Bytes
told_message heard kind d failed l = cond (has heard l) (message l kind d) (message l 14 failed)

-- to each of several connections, in their order
unfoldable pub told_messages : List ℕ → ℕ → ℕ → Bytes → Bytes → Bytes
told_messages ls heard kind d failed = concat (map (told_message heard kind d failed) ls)

-- that packet, if connection c belongs to the set; otherwise nothing
unfoldable pub message_if : ℕ → ℕ → ℕ → Bytes → Bytes → ℕ → Bytes
message_if s heard kind d failed c = cond (has s c) (told_message heard kind d failed c) []
