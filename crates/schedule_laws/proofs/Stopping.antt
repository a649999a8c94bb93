-- Where no slot is in work and none can be handed out, all are at the last epoch.
use Rattle.std.proofs.Common.{arith, ◌≡◌, inl, inr, ◌⊎◌, ℕ, zero, suc, ◌<◌, ◌≤◌, List, length}
use Rattle.std.proofs.lemmas.Bool.{cases_lt}
use Rattle.std.proofs.lemmas.Bool.Decides.{eqb_tells}
use Rattle.exchange_board.specs.Machine.{epochs, phases, IsReady, NoneOut, AllEnded}
use Rattle.exchange_board.specs.Views.{Stage}
use Rattle.exchange_board.proofs.Machines.{no-dead-end}
use Rattle.schedule_laws.specs.Events.{KeepRule}

-- one of the first n slots can be handed out, or none
looked : (until : ℕ) (ps : List Stage) (n : ℕ) → n ≤ length ps
    → ((t : ℕ) × ((t < length ps) × IsReady until ps t)) ⊎ ((t : ℕ) → t < n → phases ps t ≡ 0 → until ≤ epochs ps t)
looked until ps zero within = inr (λ t h. absurd (omega arith))
looked until ps (suc n) within = elim (looked until ps n (omega arith)) [
  | inl found ↦ inl found
  | inr none ↦ elim (eqb_tells (phases ps n) 0) [
    | inl rests ↦ elim (cases_lt (epochs ps n) until) [
      | inl below ↦ inl (n, (omega arith, (rests.1, below)))
      | inr past ↦ inr (λ t h at_rest. elim (eqb_tells t n) [
        | inl a ↦ let same = a.1 in rw same past
        | inr a ↦ let other = a.1 in none t (omega arith) at_rest
      ])
    ]
    | inr busy ↦ inr (λ t h at_rest. elim (eqb_tells t n) [
      | inl a ↦ let same = a.1 in absurd (busy.1 (rw same at at_rest))
      | inr a ↦ let other = a.1 in none t (omega arith) at_rest
    ])
  ]
]

pub none-stops : (until : ℕ) (since : ℕ → ℕ) (ps : List Stage) → KeepRule until since ps → NoneOut ps
    → AllEnded until ps ⊎ ((t : ℕ) × ((t < length ps) × IsReady until ps t))
none-stops until since ps rule none_out = elim (looked until ps (length ps) (omega arith)) [
  | inl found ↦ inr found
  | inr none ↦ inl (no-dead-end (length ps) until since (epochs ps) (phases ps) rule none_out none)
]
