-- Bytes that are written to a file piece by piece.
use Rattle.std.proofs.Common.{◌≡◌, ℕ, ◌+◌, ◌-◌, List, [], ◌∷◌, ◌++◌, length, take, drop, Option, Result, Ok, Err, refl, sym, ap, ◌∙◌, inl, inr, append_assoc, append-nil}
use Rattle.std.proofs.Math.Seq.{take-add}
use Rattle.std.proofs.lemmas.Bool.{false≢true}
use Rattle.std.proofs.lemmas.List.{take_rest}
use Rattle.std.specs.Prelude.{IsErr}
use Rattle.glass_edges.specs.FolderSteps.{Names, Step, Past, EachStep, Did, FailedWrite}
use Rattle.glass_edges.specs.FolderSteps.Step.{looks, empties, makes, writes, flushes, renames, removes, fails}
use Rattle.glass_edges.specs.declared.refused.Fault.{Fault}
use Rattle.glass_edges.specs.Saves.{BySteps, bytes_written, IsWrite, WritesAll}
use Rattle.glass_edges.proofs.Steps.{each_step-append, by-did, by-failed, by-then, has_failed-then, tried-error, Tried, Done}

bytes_written-append : (s t : List Step) → bytes_written (s ++ t) ≡ bytes_written s ++ bytes_written t
bytes_written-append [] t = refl
bytes_written-append (looks of ∷ s) t = bytes_written-append s t
bytes_written-append (empties of ∷ s) t = bytes_written-append s t
bytes_written-append (makes of ∷ s) t = bytes_written-append s t
bytes_written-append (writes of piece ∷ s) t = ap (λ l. piece ++ l) (bytes_written-append s t) ∙ sym (append_assoc piece (bytes_written s) (bytes_written t))
bytes_written-append (flushes of ∷ s) t = bytes_written-append s t
bytes_written-append (renames from to ∷ s) t = bytes_written-append s t
bytes_written-append (removes of ∷ s) t = bytes_written-append s t
bytes_written-append (fails step ∷ s) t = bytes_written-append s t

-- so far all of these bytes are written
abbrev pub Front : List ℕ → List ℕ → Names → List Step → Type 0
Front name front = WritesAll {T = Unit {0}} {E = Fault} name front (Ok tt)

one-write : (name of piece : List ℕ) (t : List Step) → of ≡ name → t ≡ writes of piece ∷ [] → EachStep (IsWrite name) t
one-write name of piece t is same = rw same (is, tt)

tried-write : (name of piece : List ℕ) (before : Names) (t : List Step) → of ≡ name → Tried (writes of piece) before t → EachStep (IsWrite name) t
tried-write name of piece before t is (inl same) = rw same (tt, tt)
tried-write name of piece before t is (inr same) = rw same (is, (tt, tt))

module _ (name bytes : List ℕ) (a b c : Option Past) where
  -- the next piece
  pub write-more : (at n : ℕ) (of : List ℕ) → of ≡ name → BySteps (Front name (take at bytes)) a b
      → Did (writes of (take n (take (length bytes - at) (drop at bytes))) ∷ []) b c → BySteps (Front name (take (at + n) bytes)) a c
  write-more at n of is so_far did =
      by-then (Front name (take at bytes)) (Done (writes of (take n (take (length bytes - at) (drop at bytes))))) (Front name (take (at + n) bytes)) a b c so_far (by-did _ b c did) (λ before s t front same. record {
        only = each_step-append _ s t front.only (one-write name of _ t is same);
        whole = bytes_written-append s t ∙ ap (λ l. l ++ bytes_written t) front.whole ∙ ap (λ l. take at bytes ++ bytes_written l) same
            ∙ ap (λ l. take at bytes ++ l) (append-nil _)
            ∙ ap (λ xs. take at bytes ++ take n xs) (take_rest bytes at) ∙ sym (take-add at n bytes);
        cause = tt;
      })

  -- an error
  pub write-failed : (front of piece : List ℕ) (r : Result (Unit {0}) Fault) → IsErr r → of ≡ name → BySteps (Front name front) a b
      → FailedWrite of piece b c → BySteps (WritesAll name bytes r) a c
  write-failed front of piece (Ok x) is_err is so_far failed = absurd (false≢true is_err)
  write-failed front of piece (Err e) is_err is so_far failed =
      by-then (Front name front) (Tried (writes of (take failed.count piece))) (WritesAll {T = Unit {0}} name bytes (Err e)) a b c so_far (by-failed _ b c failed.front) (λ before s t first tried. record {
        only = each_step-append _ s t first.only (tried-write name of _ before t is tried);
        whole = tt;
        cause = has_failed-then s t (tried-error _ before t tried);
      })
