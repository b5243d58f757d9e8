-- Where the channels of a queue bank lie in its memory: channel k + 1 from 128 × k on.
use Rattle.std.specs.Prelude.{◌≡◌, ℕ, ◌*◌, ◌<◌, List, length, slice_index_or}
use Rattle.queue_bank.specs.declared.channel.Channel.{Channel}

abbrev pub Laid : List Channel → Type 0
Laid cs = (k : ℕ) (d : Channel) → k < length cs → (slice_index_or cs k d).outgoing.base ≡ 128 * k
