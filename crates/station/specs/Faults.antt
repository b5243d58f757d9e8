-- The faults that wait to be read, and how many were lost.
use Rattle.std.specs.Prelude.{ℕ, ◌+◌, min, cond}
use Rattle.ring.specs.Held.{queue}
use Rattle.ring.specs.Queue.{Queue, empty, has_room, put_into, without_oldest}
use Rattle.station.specs.declared.event.Fault.{Fault}
use Rattle.station.specs.declared.faults.Faults.{Faults}

-- what the faults of a station are to those who use them
pub record Told : Type 0 where
  pub waiting : Queue Fault
  pub lost : ℕ

-- the queue that the ring holds, and the lost count
abbrev pub told_by : Faults → Told
told_by f = record { waiting = queue f.ring f.memory; lost = f.lost }

-- 64 can wait
abbrev pub no_faults : Told
no_faults = record { waiting = empty 64; lost = 0 }

-- one more waits, or where all places are full is counted as lost
abbrev pub noted : Told → Fault → Told
noted t f = record { waiting = put_into t.waiting f; lost = cond (has_room t.waiting) t.lost (min (t.lost + 1) 65535) }

abbrev pub without_first : Told → Told
without_first t = record { waiting = without_oldest t.waiting; lost = t.lost }
