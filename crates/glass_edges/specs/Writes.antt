-- What a call that puts a text leaves of an output.
use Rattle.std.specs.Prelude.{◌≡◌, ℕ, List, Result, Ok, OnOk, OnErr}
use Rattle.glass_edges.specs.declared.sink.Sink.{Ghosts}
use Rattle.glass_edges.specs.declared.refused.Fault.{Fault}
use Rattle.glass_edges.specs.Causes.{HasCause}
use Rattle.glass_edges.specs.Contents.{appended, AppendsPrefix, PutsFront}

-- the call puts the text: all of it where it succeeded, a prefix where it failed
pub record Writes {O T E : Type 0} (sink : Ghosts O) (before now : O) (text : List ℕ) (result : Result T E) : Type 0 where
  pub whole : OnOk result (sink.taken now ≡ appended (sink.taken before) text)
  pub prefix : OnErr result (AppendsPrefix (sink.taken before) (sink.taken now) text)
  pub cause : HasCause (sink.faults before) (sink.faults now) result

-- the call puts a front of the text, and leaves the rest to be put; a prefix where it failed
pub record WritesFront {O T E : Type 0} (sink : Ghosts O) (before now : O) (text rest : List ℕ) (result : Result T E) : Type 0 where
  pub front : OnOk result (PutsFront (sink.taken before) (sink.taken now) text rest)
  pub prefix : OnErr result (AppendsPrefix (sink.taken before) (sink.taken now) text)
  pub cause : HasCause (sink.faults before) (sink.faults now) result

-- so far all of a text was put, or a front of it
abbrev pub HasPut : {O : Type 0} → Ghosts O → O → O → List ℕ → Type 0
HasPut sink before now text = Writes {T = Unit {0}} {E = Fault} sink before now text (Ok tt)

abbrev pub HasPutFront : {O : Type 0} → Ghosts O → O → O → List ℕ → List ℕ → Type 0
HasPutFront sink before now text rest = WritesFront {T = Unit {0}} {E = Fault} sink before now text rest (Ok tt)
