-- A run that is stopped and resumed goes on as the whole run does, and so do its records.
use Rattle.std.proofs.Common.{◌≡◌, ℕ, zero, suc, ◌+◌, ◌-◌, ◌<◌, ◌≤◌, cond, List, [], ◌++◌, flat_map, refl, ap, sym, ◌∙◌, arith, add-zero}
use Rattle.std.proofs.lemmas.Grind.{flat_map-append}
use Rattle.spin_model.specs.Steps.{steps, table}
use Rattle.spin_model.proofs.Joined.{joined-same}
use Rattle.spin_model.proofs.Stepping.{steps-add}
use Rattle.spin_model.proofs.Tables.{table-add, table-same}
use Rattle.scalar_rule.specs.Plan.{Plan}
use Rattle.scalar_rule.specs.Epoch.{epoch, epoch_records}
use Rattle.scalar_rule.specs.Serial.{serial}
use Rattle.scalar_rule.specs.Records.{is_recorded, records_at, in_order, measured_from, records_until}
use Rattle.scalar_rule.specs.declared.sample.Sample.{Sample}
use Rattle.scalar_rule.specs.declared.sample.Record.{Record}

-- n epochs
abbrev pub epochs : Plan → ℕ → ℕ → Sample → Sample
epochs plan start n s = steps (λ _ t. epoch plan t) start n s

pub epochs-epoch : (plan : Plan) (start n : ℕ) (s : Sample) → (epochs plan start n s).epoch ≡ s.epoch + n
unfolding steps
epochs-epoch plan start zero s = sym (add-zero s.epoch)
epochs-epoch plan start (suc n) s = let before = epochs-epoch plan start n s in omega arith

pub epochs-bit : (plan : Plan) (start n : ℕ) (s : Sample) → (epochs plan start n s).bit ≡ s.bit
unfolding steps
epochs-bit plan start zero s = refl
epochs-bit plan start (suc n) s = epochs-bit plan start n s

epochs-start : (plan : Plan) (a b n : ℕ) (s : Sample) → epochs plan a n s ≡ epochs plan b n s
unfolding steps
epochs-start plan a b zero s = refl
epochs-start plan a b (suc n) s = ap (epoch plan) (epochs-start plan a b n s)

pub serial-serial : (plan : Plan) (s : Sample) (c e : ℕ) → s.epoch ≤ c → c ≤ e → serial plan (serial plan s c) e ≡ serial plan s e
serial-serial plan s c e from to =
    let before = c - s.epoch in
    let x = serial plan s c in
    let reached = epochs-epoch plan s.epoch before s in
    let there : x.epoch ≡ c = omega arith in
    let whole : before + (e - c) ≡ e - s.epoch = omega arith in
    ap (λ k. epochs plan x.epoch (e - k) x) there
    ∙ epochs-start plan x.epoch (s.epoch + before) (e - c) x
    ∙ sym (steps-add (λ _ t. epoch plan t) s.epoch before (e - c) s)
    ∙ ap (λ n. epochs plan s.epoch n s) whole

records_at-resumed : (plan : Plan) (start : ℕ → Sample) (samples c f : ℕ) → c ≤ f → ((b : ℕ) → b < samples → (start b).epoch ≤ c)
    → records_at (measured_from plan (λ b. serial plan (start b) c)) samples f ≡ records_at (measured_from plan start) samples f
records_at-resumed plan start samples c f later started =
    joined-same (λ b. epoch_records plan (serial plan (serial plan (start b) c) f)) (λ b. epoch_records plan (serial plan (start b) f)) (λ b. b) samples
    (λ b below. ap (epoch_records plan) (serial-serial plan (start b) c f (started b below) later))

-- the records of epoch f, if it is recorded
abbrev pub records_if : Plan → (ℕ → Sample) → ℕ → ℕ → ℕ → List Record
records_if plan start samples every f = cond (is_recorded every f) (records_at (measured_from plan start) samples f) []

in_order-resumed : (plan : Plan) (start : ℕ → Sample) (samples every a c e : ℕ) → a ≤ c → c ≤ e → ((b : ℕ) → b < samples → (start b).epoch ≤ c)
    → in_order (measured_from plan start) samples every a c ++ in_order (measured_from plan (λ b. serial plan (start b) c)) samples every c e ≡ in_order (measured_from plan start) samples every a e
in_order-resumed plan start samples every a c e from to started =
    let g = records_if plan start samples every in
    let h = records_if plan (λ b. serial plan (start b) c) samples every in
    let first = table (λ k. a + k) (c - a) in
    let rest = joined-same h g (λ k. c + k) (e - c) (λ k below. ap (λ r. cond (is_recorded every (c + k)) r []) (records_at-resumed plan start samples c (c + k) (omega arith) started)) in
    let places = table-same (λ k. a + (c - a + k)) (λ k. c + k) (e - c) (λ k below. omega arith) in
    let whole : c - a + (e - c) ≡ e - a = omega arith in
    ap (λ v. flat_map g first ++ v) rest
    ∙ sym (flat_map-append g first (table (λ k. c + k) (e - c)))
    ∙ ap (λ t. flat_map g (first ++ t)) (sym places)
    ∙ ap (flat_map g) (sym (table-add (λ k. a + k) (c - a) (e - c)))
    ∙ ap (λ n. flat_map g (table (λ k. a + k) n)) whole

-- the epoch that the dynamics has reached
pub epoch-serial : (plan : Plan) (s : Sample) (c : ℕ) → s.epoch ≤ c → (serial plan s c).epoch ≡ c
epoch-serial plan s c from =
    let reached = epochs-epoch plan s.epoch (c - s.epoch) s in
    omega arith

pub records-resumed : (plan : Plan) (start : ℕ → Sample) (samples every c e : ℕ) → (start 0).epoch ≤ c → c ≤ e → ((b : ℕ) → b < samples → (start b).epoch ≡ (start 0).epoch)
    → records_until plan start samples every c ++ records_until plan (λ b. serial plan (start b) c) samples every e ≡ records_until plan start samples every e
records-resumed plan start samples every c e from to level =
    ap (λ k. records_until plan start samples every c ++ in_order (measured_from plan (λ b. serial plan (start b) c)) samples every k e) (epoch-serial plan (start 0) c from)
    ∙ in_order-resumed plan start samples every (start 0).epoch c e from to (λ b below. let same = level b below in omega arith)
