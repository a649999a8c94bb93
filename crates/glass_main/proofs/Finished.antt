-- What a run at its end has written is what the work gives that it does.
use Rattle.std.proofs.Common.{◌≡◌, ◌≢◌, ℕ, ◌<◌, List, map, Option, Some, None, sym, subst}
use Rattle.std.specs.Prelude.{All}
use Rattle.std.proofs.lemmas.List.{length-map, get_or-map}
use Rattle.glass_edges.specs.Contents.{Placed}
use Rattle.glass_engine.specs.Runs.{RunView, DoneView}
use Rattle.glass_main.specs.Beginnings.{Beginning}
use Rattle.glass_main.specs.Outside.{Store}
use Rattle.glass_main.specs.Request.{Work, PlainWork, CheckWork, RunWork, BanksWork, AverageWork, DemoWork, LinesWork, PottsWork, AgeWork, MeasureWork, CrossWork, Gives}
use Rattle.glass_main.specs.Statuses.{Saved}
use Rattle.glass_main.specs.Stops.{RunGives}
use Rattle.glass_main.specs.declared.planned.Planned.{Planned}

pub all-done : (dones : List DoneView) (P : RunView → Type 0) → All P (map (λ (d : DoneView). d.run) dones) → All (λ (d : DoneView). P d.run) dones
all-done dones P all = λ k d below.
    subst P (get_or-map (λ (x : DoneView). x.run) dones k d d.run below) (all k d.run (subst (λ n. k < n) (sym (length-map dones (λ (x : DoneView). x.run))) below))

run-weaker : (stop_after : Option ℕ) (planned : Planned) (from : Beginning) (e : ℕ) (P Q : List ℕ → List ℕ → Type 0) → ((text bytes : List ℕ) → P text bytes → Q text bytes)
    → RunGives stop_after planned from e P → RunGives stop_after planned from e Q
run-weaker None planned from e P Q so g = (g.0, so _ _ g.1)
run-weaker (Some takes) planned from e P Q so g = (g.0, g.1, so _ _ g.2)

pub gives-weaker : (work : Work) (P Q : List ℕ → List ℕ → Type 0) → ((text bytes : List ℕ) → P text bytes → Q text bytes) → Gives work P → Gives work Q
gives-weaker (PlainWork order) P Q so g = so _ _ g
gives-weaker (CheckWork plans) P Q so g = so _ _ g
gives-weaker (RunWork planned from until stop_after) P Q so g = run-weaker stop_after planned from until P Q so g
gives-weaker (BanksWork planned starts until) P Q so g = (g.0, so _ _ g.1)
gives-weaker (AverageWork averages) P Q so g = so _ _ g
gives-weaker (DemoWork n) P Q so g = so _ _ g
gives-weaker (LinesWork saved) P Q so g = so _ _ g
gives-weaker (PottsWork order) P Q so g = so _ _ g
gives-weaker (AgeWork planned wait times) P Q so g = so _ _ g
gives-weaker (MeasureWork planned starts until) P Q so g = (g.0, so _ _ g.1)
gives-weaker (CrossWork crossed) P Q so g = so _ _ g

pub saved-as : (name : Option (List ℕ)) (held holds : Store) (bytes given : List ℕ) → (name ≢ None → bytes ≡ given) → Saved name bytes held holds → Saved name given held holds
saved-as None held holds bytes given is saved = saved
saved-as (Some name) held holds bytes given is saved = subst (Placed held.holds holds.holds name) (is (λ z. absurd cc)) saved
