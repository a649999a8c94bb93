-- The steps that read two checkpoints, one behind the other.
use Rattle.std.proofs.Common.{◌≡◌, ℕ, List, Option, Some, None, option_map, IfSome, Result, Ok, Err, refl, sym, ap, subst, ◌∙◌, arith}
use Rattle.glass_edges.specs.Causes.{Rose}
use Rattle.glass_edges.specs.Contents.{Files}
use Rattle.plane_sweep.specs.declared.stand.Stand.{Stand}
use Rattle.scalar_rule.specs.Plan.{Plan}
use Rattle.run_checkpoint.specs.BankEncoding.{HaveOneShape}
use Rattle.command_words.specs.CrossWords.{CrossOrder}
use Rattle.glass_main.specs.CrossRun.{CrossedStates, seeded}
use Rattle.glass_main.specs.Endings.{IsReachedStates, TellsLength}
use Rattle.glass_main.specs.Gathers.{Gathers, Fetches, Stops}
use Rattle.glass_main.specs.ManyBanks.{PlannedBanks}
use Rattle.glass_main.specs.Outside.{Store}
use Rattle.glass_main.specs.Request.{and_then, IsAccepted, first_at, second_at, crossed_after}
use Rattle.glass_main.specs.Statuses.{IsRefusedBy}
use Rattle.glass_main.specs.declared.refusal.Refusal.{Refusal}
use Rattle.glass_main.specs.declared.ending.Ending.{Ending}
use Rattle.glass_main.specs.declared.ending.Ending.TheVariants.{Done, Refused, Unread, Unwritten, Unsaved, NoMemory}
use Rattle.glass_main.specs.declared.role.Role.{Role}
use Rattle.glass_main.specs.declared.role.Role.TheVariants as roles
use Rattle.glass_main.proofs.CrossedStates.{seeded-shape}
use Rattle.glass_main.proofs.Fetching.{of-file-wider}

pub seeded-one-shape : (seed : ℕ) (plans : List Plan) → HaveOneShape plans → HaveOneShape (seeded seed plans)
seeded-one-shape seed plans shape = record { size = shape.size; slots = shape.slots; shape = seeded-shape seed shape.size shape.slots plans shape.shape }

-- ---- refusals

through : {A B : Type 0} (read : Result A Refusal) (next : A → Result B Refusal) (told : Refusal) → IsRefusedBy read told → IsRefusedBy (and_then read next) told
through (Ok x) next told is = absurd is
through (Err due) next told is = is

found-then : {A B : Type 0} (read : Result A Refusal) (next : A → Result B Refusal) (x : A) (told : Refusal) → read ≡ Ok x → IsRefusedBy (next x) told → IsRefusedBy (and_then read next) told
found-then read next x told is refused = rw is refused

accepted : {A : Type 0} (read : Result A Refusal) (x : A) → read ≡ Ok x → IsAccepted read
accepted read x is = rw is tt

module _ (order : CrossOrder) (planned : PlannedBanks) where
  abbrev first : Files → Result (List Stand) Refusal
  first = first_at planned.plans order.first

  abbrev second : Files → Result (List Stand) Refusal
  second = second_at (seeded order.seed planned.plans) order.second

  first-asked : (held : Option Files) (told : Refusal) → IfSome (option_map first held) (λ a. IsRefusedBy a told) → IfSome (option_map (crossed_after order planned) held) (λ a. IsRefusedBy a told)
  unfolding crossed_after
  first-asked None told is = tt
  first-asked (Some files) told is = through (first files) _ told is

  second-asked : (held : Option Files) (states : List Stand) (told : Refusal) → IfSome (option_map first held) (λ a. a ≡ Ok states) → IfSome (option_map second held) (λ a. IsRefusedBy a told)
      → IfSome (option_map (crossed_after order planned) held) (λ a. IsRefusedBy a told)
  unfolding crossed_after
  second-asked None states told found is = tt
  second-asked (Some files) states told found is = found-then (first files) _ states told found (through (second files) _ told is)

  first-reached : (held : Option Files) (role : Role) → Fetches roles.Checkpoint role → IsReachedStates order planned held role
  first-reached held role is = subst (IsReachedStates order planned held) (sym is) tt

  first-accepted : (held : Option Files) (states : List Stand) → IfSome (option_map first held) (λ a. a ≡ Ok states) → IfSome (option_map first held) IsAccepted
  first-accepted None states found = tt
  first-accepted (Some files) states found = accepted (first files) states found

  second-reached : (held : Option Files) (states : List Stand) → IfSome (option_map first held) (λ a. a ≡ Ok states) → (role : Role) → Fetches roles.SecondCheckpoint role
      → IsReachedStates order planned held role
  second-reached held states found role is = subst (IsReachedStates order planned held) (sym is) (first-accepted held states found)

  -- ---- steps

  first-stop : (ending : Ending) (old new : Store) → Stops {A = List Stand} (option_map first old.holds) (Fetches roles.Checkpoint) ending old new
      → Stops {A = CrossedStates} (option_map (crossed_after order planned) old.holds) (IsReachedStates order planned old.holds) ending old new
  first-stop Done old new stops = stops
  first-stop (Refused told) old new stops =
      ((of-file-wider (Fetches roles.Checkpoint) (IsReachedStates order planned old.holds) told (first-reached old.holds) stops.0.0, first-asked old.holds told stops.0.1), stops.1, stops.2)
  first-stop (Unread role) old new stops = (first-reached old.holds role stops.0, stops.1)
  first-stop Unwritten old new stops = stops
  first-stop Unsaved old new stops = stops
  first-stop NoMemory old new stops = stops

  pub first-stops : (ending : Ending) (old new : Store) → Gathers {A = List Stand} (option_map first old.holds) (Fetches roles.Checkpoint) (Err ending) old new
      → Gathers {A = CrossedStates} (option_map (crossed_after order planned) old.holds) (IsReachedStates order planned old.holds) (Err ending) old new
  first-stops ending old new g = record { found = tt; passed = tt; stopped = first-stop ending old new g.stopped; same = g.same; lengths = g.lengths; later = g.later }

  second-stop : (states : List Stand) (ending : Ending) (old mid new : Store) → IfSome (option_map first old.holds) (λ a. a ≡ Ok states) → mid.holds ≡ old.holds → mid.faults ≡ old.faults
      → mid.lengths ≡ old.lengths → Stops {A = List Stand} (option_map second mid.holds) (Fetches roles.SecondCheckpoint) ending mid new
      → Stops {A = CrossedStates} (option_map (crossed_after order planned) old.holds) (IsReachedStates order planned old.holds) ending old new
  second-stop states Done old mid new found holds faults lengths stops = stops
  second-stop states (Refused told) old mid new found holds faults lengths stops =
      let asked = subst (λ (h : Option Files). IfSome (option_map second h) (λ a. IsRefusedBy a told)) holds stops.0.1 in
      let tells = subst (λ (h : Option Files). TellsLength h mid.lengths told) holds stops.2 in (
        (
          of-file-wider (Fetches roles.SecondCheckpoint) (IsReachedStates order planned old.holds) told (second-reached old.holds states found) stops.0.0,
          second-asked old.holds states told found asked,
        ),
        stops.1 ∙ faults,
        subst (λ (l : List ℕ → ℕ → Option ℕ). TellsLength old.holds l told) lengths tells,
      )
  second-stop states (Unread role) old mid new found holds faults lengths stops =
      (second-reached old.holds states found role stops.0, subst (λ (n : ℕ). Rose n new.faults) faults stops.1)
  second-stop states Unwritten old mid new found holds faults lengths stops = stops
  second-stop states Unsaved old mid new found holds faults lengths stops = stops
  second-stop states NoMemory old mid new found holds faults lengths stops = stops ∙ faults

  pub second-stops : (states : List Stand) (ending : Ending) (old mid new : Store) → Gathers {A = List Stand} (option_map first old.holds) (Fetches roles.Checkpoint) (Ok states) old mid
      → Gathers {A = List Stand} (option_map second mid.holds) (Fetches roles.SecondCheckpoint) (Err ending) mid new
      → Gathers {A = CrossedStates} (option_map (crossed_after order planned) old.holds) (IsReachedStates order planned old.holds) (Err ending) old new
  second-stops states ending old mid new f s = record {
    found = tt;
    passed = tt;
    stopped = second-stop states ending old mid new f.found f.same f.passed f.lengths s.stopped;
    same = s.same ∙ f.same;
    lengths = s.lengths ∙ f.lengths;
    later = omega (arith, f.later, s.later);
  }
