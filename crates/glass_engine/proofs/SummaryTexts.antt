-- The summary of a run from a level state is that of the serial dynamics.
use Rattle.std.proofs.Common.{arith, ◌≡◌, ℕ, zero, suc, ◌+◌, ◌-◌, ◌*◌, ◌<◌, ◌≤◌, true, List, [], ◌∷◌, ◌++◌, length, get_or, drop, take, refl, sym, ap, ap₂, ◌∙◌, cond, append-nil, length-append, subst}
use Rattle.std.specs.Prelude.{ℤ, ◌+ℤ◌, not, ◌==◌}
use Rattle.std.proofs.lemmas.List.Elements.{All-get_or}
use Rattle.std.proofs.lemmas.List.{drop_at, take_all, length-drop}
use Rattle.spin_model.specs.Limits.{every_take}
use Rattle.spin_model.proofs.Tables.{length-table}
use Rattle.report_text.specs.Lines.{summary_line, slot_line, end_line}
use Rattle.plane_sweep.specs.Packed.{part}
use Rattle.plane_sweep.specs.declared.uneven.RaggedStand.{RaggedStand}
use Rattle.plane_sweep.specs.Uneven.{uneven_part}
use Rattle.exchange_board.specs.Views.{RaggedEndedView}
use Rattle.scalar_rule.specs.Epoch.{epoch_records, slot_at}
use Rattle.scalar_rule.specs.Plan.{Plan, slots_of}
use Rattle.scalar_rule.specs.Records.{is_recorded, records_at, in_order, measured_from, records_until}
use Rattle.scalar_rule.specs.Serial.{serial}
use Rattle.scalar_rule.specs.declared.sample.PlainSlot.{PlainSlot}
use Rattle.scalar_rule.specs.declared.sample.Record.{Record}
use Rattle.scalar_rule.specs.declared.sample.Sample.{Sample}
use Rattle.glass_engine.specs.Laws.{LevelRunIsSerial}
use Rattle.glass_engine.specs.RecordPieces.{piece}
use Rattle.glass_engine.specs.BankRuns.{runs_of, IsAbreast, AreAbreast}
use Rattle.glass_engine.specs.Runs.{RunView, DoneView, IsEnd}
use Rattle.glass_engine.specs.Summary.{both_energies, slot_sums, summary_text, summary, BeginsLevel, IsSummed}
use Rattle.spin_model.proofs.Joined.{joined-same, window-more}
use Rattle.spin_model.proofs.Counts.{count-same}
use Rattle.spin_model.specs.SignedSums.{sum_of}
use Rattle.glass_engine.proofs.Pieces.{records_if, length-records_at, piece-records_at}

sum-same : (f g : ℕ → ℤ) (n : ℕ) → ((k : ℕ) → k < n → f k ≡ g k) → sum_of f n ≡ sum_of g n
unfolding sum_of
sum-same f g zero same = refl
sum-same f g (suc n) same = ap₂ (λ a b. a +ℤ b) (sum-same f g n (λ k below. same k (omega arith))) (same n (omega arith))

-- what is measured of the samples, and their slots, decide the text
text-same : (n : ℕ) (plan : Plan) (m k : ℕ → List Record) (s t : ℕ → List PlainSlot) (until : ℕ) → ((b : ℕ) → b < 64 → m b ≡ k b) → ((b : ℕ) → b < 64 → s b ≡ t b)
    → summary_text n plan m s until ≡ summary_text n plan k t until
unfolding summary_text
text-same n plan m k s t until measured contents =
    ap (λ xs. summary_line n plan 64 until ++ xs ++ end_line until)
    (joined-same (slot_sums m s) (slot_sums k t) (λ i. i) (slots_of plan)
    (λ i below. ap₂ (slot_line i)
    (sum-same (λ b. both_energies (m b) i) (λ b. both_energies (k b) i) 64 (λ b h. ap (λ rs. both_energies rs i) (measured b h)))
    (count-same (λ b. not ((slot_at (s b) i).first.replica == i)) (λ b. not ((slot_at (t b) i).first.replica == i)) 64 (λ b h. ap (λ xs. not ((slot_at xs i).first.replica == i)) (contents b h)))))

-- the last records of a run are those of its last epoch
last-split : (m : ℕ → ℕ → List Record) (every e : ℕ) → is_recorded every e ≡ true → in_order m 64 every 0 (e + 1) ≡ in_order m 64 every 0 e ++ records_at m 64 e
last-split m every e on =
    window-more (records_if m 64 every) 0 e (omega arith) ∙ ap (λ b. in_order m 64 every 0 e ++ cond b (records_at m 64 e) []) on

pub record Lasts (plan : Plan) (start : ℕ → Sample) (until : ℕ) (records : List Record) : Type 0 where
  pub enough : 64 * slots_of plan ≤ length records
  pub pieces : (b : ℕ) → b < 64 → piece (drop (length records - 64 * slots_of plan) records) (slots_of plan) b ≡ measured_from plan start b (until - 1)

pub lasts : (plan : Plan) (start : ℕ → Sample) (every until : ℕ) (records : List Record) → (start 0).epoch ≡ 0 → 1 ≤ until → is_recorded every (until - 1) ≡ true
    → records ≡ records_until plan start 64 every until → Lasts plan start until records
lasts plan start every until records first some on is =
    let m = measured_from plan start in
    let e = until - 1 in
    let whole : until ≡ e + 1 = omega arith in
    let sized : (k : ℕ) → k < 64 → length (m k e) ≡ slots_of plan = λ k h. length-table _ (slots_of plan) in
    let front = in_order m 64 every 0 e in
    let back = records_at m 64 e in
    let split : records ≡ front ++ back = is ∙ ap₂ (λ c z. in_order m 64 every c z) first whole ∙ last-split m every e on in
    let long : length back ≡ 64 * slots_of plan = length-records_at m 64 (slots_of plan) e sized in
    let both : length records ≡ length front + length back = ap length split ∙ length-append front back in
    let at : length front ≡ length records - 64 * slots_of plan = omega arith in
    let rest : drop (length records - 64 * slots_of plan) records ≡ back = ap (drop (length records - 64 * slots_of plan)) split ∙ drop_at front back (length records - 64 * slots_of plan) at in
    record {
      enough = omega arith;
      pieces = λ b h. ap (λ xs. piece xs (slots_of plan) b) (rest ∙ sym (append-nil back)) ∙ piece-records_at m 64 (slots_of plan) e b [] sized h;
    }

-- what a run is that has a summary, and its end
pub record HasSummary (run : RunView) (start : ℕ → Sample) (d : RaggedEndedView) : Type 0 where
  pub begins : BeginsLevel run start
  pub takes : run.takes ≡ every_take
  pub samples : run.orders.samples ≡ 64
  pub some : 1 ≤ run.until
  pub recorded : is_recorded run.orders.every (run.until - 1) ≡ true
  pub ends : IsEnd run d

-- the one bank of a run
first-run : (ds : List DoneView) (run : RunView) (d : DoneView) → runs_of ds ≡ run ∷ [] → d ≡ get_or ds 0 d → d.run ≡ run
first-run [] run d one is = absurd (omega (arith, ap length one))
first-run (x ∷ ds) run d one is = ap (λ (y : DoneView). y.run) is ∙ ap (λ rs. get_or rs 0 run) one

pub first-summary : (plan : Plan) (start : ℕ → Sample) (e : ℕ) (ds : List DoneView) (a : AreAbreast ds) (s : IsSummed plan start e (runs_of ds)) (d : DoneView) → d ≡ get_or ds 0 d
    → HasSummary s.run start d.ended
first-summary plan start e ds a s d is =
    let P : DoneView → Type 0 = IsAbreast a.course in
    let ended = (subst P (sym is) (All-get_or P ds 0 d (omega (arith, a.some)) a.each)).ended in
    record {
      begins = s.begins;
      takes = s.takes;
      samples = s.samples;
      some = omega (arith, s.until, s.some);
      recorded = ap (λ k. is_recorded s.run.orders.every (k - 1)) s.until ∙ s.recorded;
      ends = subst (λ (r : RunView). IsEnd r d.ended) (first-run ds s.run d s.one is) ended;
    }

run-lasts : (law : LevelRunIsSerial) (run : RunView) (start : ℕ → Sample) (d : RaggedEndedView) (h : HasSummary run start d)
    → Lasts run.plan (λ b. part run.plan.size b h.begins.stand) run.until d.records
unfolding part
run-lasts law run start d h =
    let p = run.plan in
    let parts : ℕ → Sample = λ b. part p.size b h.begins.stand in
    let is = law run h.begins.stand d h.takes h.begins.base h.begins.fits h.ends in
    lasts p parts run.orders.every run.until d.records h.begins.first h.some h.recorded (is.records ∙ ap (λ k. records_until p parts k run.orders.every run.until) h.samples)

pub summary-enough : (law : LevelRunIsSerial) (run : RunView) (start : ℕ → Sample) (d : RaggedEndedView) → HasSummary run start d → 64 * slots_of run.plan ≤ length d.records
summary-enough law run start d h = (run-lasts law run start d h).enough

-- the text that is put, from the records and the slots of a run at its end
summary-is : (law : LevelRunIsSerial) (n : ℕ) (run : RunView) (start : ℕ → Sample) (d : RaggedEndedView) → HasSummary run start d
    → summary_text n run.plan (λ b. piece (drop (length d.records - 64 * slots_of run.plan) d.records) (slots_of run.plan) b) (λ b. (uneven_part run.plan.size b d.stand).slots) run.until
    ≡ summary n run.plan start run.until
unfolding part
summary-is law n run start d h =
    let p = run.plan in
    let is = law run h.begins.stand d h.takes h.begins.base h.begins.fits h.ends in
    let l = run-lasts law run start d h in
    text-same n p _ (λ b. measured_from p start b (run.until - 1)) _ (λ b. (serial p (start b) run.until).slots) run.until
    (λ b below. l.pieces b below ∙ ap (λ (s : Sample). epoch_records p (serial p s (run.until - 1))) (h.begins.stands b below))
    (λ b below. ap (λ (s : Sample). s.slots) (is.stand b below) ∙ ap (λ (s : Sample). (serial p s run.until).slots) (h.begins.stands b below))

-- the last records are all that is behind the others
pub last-taken : (records : List Record) (n : ℕ) → n ≤ length records → take (length records - (length records - n)) (drop (length records - n) records) ≡ drop (length records - n) records
last-taken records n small =
    let long : length (drop (length records - n) records) ≡ length records - (length records - n) = length-drop (length records - n) records in
    take_all (length records - (length records - n)) (drop (length records - n) records) (omega (arith, long))

-- the same text, from the last of so many records
pub summary-taken : (law : LevelRunIsSerial) (n : ℕ) (run : RunView) (start : ℕ → Sample) (d : RaggedEndedView) → HasSummary run start d
    → (plan : Plan) (records : List Record) (slots : ℕ) (stand : RaggedStand) (until : ℕ) → plan ≡ run.plan → records ≡ d.records → slots ≡ slots_of run.plan → stand ≡ d.stand → until ≡ run.until
    → summary_text n plan (λ b. piece (take (length records - (length records - 64 * slots)) (drop (length records - 64 * slots) records)) (slots_of plan) b) (λ b. (uneven_part plan.size b stand).slots) until
    ≡ summary n plan start run.until
summary-taken law n run start d h plan records slots stand until plan_is records_are slots_are stand_is until_is =
    let enough = summary-enough law run start d h in
    let long = ap length records_are in
    let last : take (length records - (length records - 64 * slots)) (drop (length records - 64 * slots) records) ≡ drop (length d.records - 64 * slots_of run.plan) d.records =
    last-taken records (64 * slots) (omega (arith, enough, long, slots_are)) ∙ ap₂ (λ (xs : List Record) (k : ℕ). drop (length xs - 64 * k) xs) records_are slots_are in
    let T : Plan → List Record → RaggedStand → ℕ → List ℕ = λ p rs st u. summary_text n p (λ b. piece rs (slots_of p) b) (λ b. (uneven_part p.size b st).slots) u in
    ap₂ (λ p rs. T p rs stand until) plan_is last
    ∙ ap₂ (λ st u. T run.plan (drop (length d.records - 64 * slots_of run.plan) d.records) st u) stand_is until_is
    ∙ summary-is law n run start d h
    ∙ ap (λ p. summary n p start run.until) (sym plan_is)
