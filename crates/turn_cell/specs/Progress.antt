-- Progress words, and what a seat of the lock knows.
-- A progress word is 4 * epoch + phase.
-- Phase 0: at rest; 1: in work with a seat; 2: handed back, and waiting for its partner.
use Rattle.std.specs.Prelude.{◌≡◌, ◌≢◌, ℕ, ◌-◌, ◌%◌, ◌<◌, ◌≤◌, false, List, [], ◌∷◌, None, Some, length, slice_index}
use Rattle.turn_cell.specs.Sums.{numbers_from}
use Rattle.turn_cell.specs.declared.view.View.{View}

-- every word has phase 0, 1 or 2
abbrev pub ArePhased : List ℕ → Type 0
ArePhased words = (i : ℕ) → slice_index words i % 4 < 3

-- every word has phase 0 or 2, which an even word has: at rest, or handed back and waiting, as those
-- that a lock is opened with
abbrev pub AreAtHome : List ℕ → Type 0
AreAtHome words = (i : ℕ) → slice_index words i % 2 ≡ 0

-- no word has phase 1
abbrev pub NoneIsInWork : List ℕ → Type 0
NoneIsInWork words = (i : ℕ) → slice_index words i % 4 ≢ 1

-- each word of the first list is at most that of the second at its place, and the second is no shorter
abbrev pub AtMost : List ℕ → List ℕ → Type 0
AtMost xs ys = (length xs ≤ length ys) × ((i : ℕ) → slice_index xs i ≤ slice_index ys i)

module _ {O : Type 0} where
  -- a seat of n that stands for these numbers and has done nothing yet
  abbrev pub fresh_view : O → ℕ → ℕ → ℕ → List ℕ → View O
  fresh_view base places n number numbers = record {
    number = number;
    base = Some base;
    holding = false;
    known = [];
    out = [];
    seen = [];
    turns = 0;
    refused = 0;
    numbers = numbers;
    total = n;
    places = places;
  }

  -- seat i of n, as a lock is opened
  abbrev pub opened_view : O → ℕ → ℕ → ℕ → View O
  opened_view base places n i = fresh_view base places n i (i ∷ [])

  -- the one seat that stands for all n, until they are split from it
  abbrev pub first_view : O → ℕ → ℕ → View O
  first_view base places n = fresh_view base places n (n - 1) (numbers_from 0 n)

  -- a seat that was joined to another: it holds nothing, has seen nothing, and has no work and no number
  abbrev pub spent_view : View O
  spent_view = record {
    number = 0;
    base = None;
    holding = false;
    known = [];
    out = [];
    seen = [];
    turns = 0;
    refused = 0;
    numbers = [];
    total = 0;
    places = 0;
  }
