-- An output in memory, which takes what it has room for and fails at chosen puts.
use Rattle.std.specs.Prelude.{ℕ, ◌-◌, Bool, ◌&&◌, ◌||◌, ◌==◌, cond, nat_le, nat_lt, min, List, ◌++◌, length, take}
use Rattle.std.specs.List.{list_any}
use Rattle.glass_edges.specs.Causes.{one_more}

-- the bytes taken, the bytes that there is room for in all, the most that one put takes,
-- the numbers of the puts that fail, and the puts and faults so far
pub record MemoryOutput : Type 0 where
  pub taken : List ℕ
  pub room : ℕ
  pub most : ℕ
  pub failing : List ℕ
  pub puts : ℕ
  pub faults : ℕ

-- the bytes that there is still room for
abbrev pub left : MemoryOutput → ℕ
left s = s.room - length s.taken

-- a put of the piece fails: its number is one of those, or the piece isn't empty and no room is left
abbrev pub refuses : MemoryOutput → List ℕ → Bool
refuses s piece = list_any (λ n. n == s.puts) s.failing || (nat_le (left s) 0 && nat_lt 0 (length piece))

-- how many bytes of the piece a put takes
abbrev pub accepted : MemoryOutput → List ℕ → ℕ
accepted s piece = min (length piece) (min s.most (left s))

-- after a put of the piece
abbrev pub after_put : MemoryOutput → List ℕ → MemoryOutput
after_put s piece = cond (refuses s piece)
    (record s { puts = one_more s.puts; faults = one_more s.faults })
    (record s { puts = one_more s.puts; taken = s.taken ++ take (accepted s piece) piece })
