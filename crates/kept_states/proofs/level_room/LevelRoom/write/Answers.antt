-- The checkpoint of the only bank, or those of several banks in their frame.
use Rattle.std.specs.Arc.{arc_value}
use Rattle.std.proofs.Common.{◌≡◌, ◌+◌, ◌≤◌, List, ℕ, ◌++◌, map, length, ap, sym, ◌∙◌, arith}
use Rattle.std.proofs.lemmas.List.{length-map}
use Rattle.kept_states.specs.Levels.{banks_spare, level_len}
use Rattle.kept_states.specs.Rooms.{LevelRoomView}
use Rattle.kept_states.proofs.Written.{one-spare, many-spare, one-encoding, many-encoding}
use Rattle.run_checkpoint.specs.BankEncoding.{banks_bytes, banks_parts}
use Rattle.run_checkpoint.proofs.BankClauses.{length-banks_header}
use Rattle.run_checkpoint.proofs.Forms.{length-sealed}
use Rattle.kept_states.proofs.level_room.LevelRoom.write.Goals as goal
use Rattle.kept_states.proofs.level_room.LevelRoom.write.Goals.{Then-plans-eq1, Else-plans-eq1}

one-room : (c : Then-plans-eq1) → (banks_spare (map arc_value c.args.plans.now) ≡ level_len (map arc_value c.args.plans.now)) × (level_len (map arc_value c.args.plans.now) ≤ c.clear.new.self.spare)
one-room c =
    let limit = ap (λ (v : LevelRoomView). v.limit) c.self.view_is in
    (one-spare (map arc_value c.args.plans.now) (length-map c.args.plans.now arc_value ∙ c.if-plans-eq1.true), omega (arith, c.requires.room.fits, limit, c.clear.ensures.spare))

some-not-one : (c : Else-plans-eq1) → (1 ≤ length (map arc_value c.args.plans.now)) × ¬ (length (map arc_value c.args.plans.now) ≡ 1)
some-not-one c =
    let long = length-map c.args.plans.now arc_value in
    (omega (arith, c.requires.some, long), λ one. c.if-plans-eq1.false (sym long ∙ one))

many-room : (c : Else-plans-eq1) → (44 + banks_spare (map arc_value c.args.plans.now) ≡ level_len (map arc_value c.args.plans.now)) × (level_len (map arc_value c.args.plans.now) ≤ c.clear.new.self.spare)
many-room c =
    let limit = ap (λ (v : LevelRoomView). v.limit) c.self.view_is in
    let both = some-not-one c in
    (many-spare (map arc_value c.args.plans.now) both.0 both.1 c.requires.shape, omega (arith, c.requires.room.fits, limit, c.clear.ensures.spare))

pub put_banks-requires-clause-spare : goal.put_banks-requires-clause-spare
put_banks-requires-clause-spare c = let room = one-room ((goal.at.put_banks-requires-clause-spare c).Then-plans-eq1) in omega (arith, room.0, room.1)

pub begin_banks-requires-clause-spare : goal.begin_banks-requires-clause-spare
begin_banks-requires-clause-spare c = let room = many-room ((goal.at.begin_banks-requires-clause-spare c).Else-plans-eq1) in omega (arith, room.0, room.1)

pub put_banks-requires-else-plans-eq1-clause-spare : goal.put_banks-requires-else-plans-eq1-clause-spare
put_banks-requires-else-plans-eq1-clause-spare c =
    let room = many-room ((goal.at.put_banks-requires-else-plans-eq1-clause-spare c).Else-plans-eq1) in omega (arith, room.0, room.1, c.begin_banks.ensures.spare)

pub end_banks-requires : goal.end_banks-requires
end_banks-requires c =
    let room = many-room ((goal.at.end_banks-requires c).Else-plans-eq1) in omega (arith, room.0, room.1, c.begin_banks.ensures.spare, c.put_banks-else-plans-eq1.ensures.spare)

pub returns-then-plans-eq1-clause-bytes : goal.returns-then-plans-eq1-clause-bytes
returns-then-plans-eq1-clause-bytes c =
    let plans = map arc_value c.args.plans.now in
    let body = banks_bytes plans (banks_parts plans c.args.stands) in
    one-encoding plans c.args.stands c.put_banks.new.bytes.bytes (length-map c.args.plans.now arc_value ∙ c.if-plans-eq1.true) c.requires.fit
    (c.put_banks.ensures.bytes ∙ ap (λ (xs : List ℕ). xs ++ body) c.clear.ensures.bytes)

pub returns-then-plans-eq1-clause-len : goal.returns-then-plans-eq1-clause-len
returns-then-plans-eq1-clause-len c =
    let room = one-room ((goal.at.returns-then-plans-eq1-clause-len c).Then-plans-eq1) in
    omega (arith, room.0, c.put_banks.ensures.len, ap (λ (xs : List ℕ). length xs) c.clear.ensures.bytes)

pub returns-else-plans-eq1-clause-bytes : goal.returns-else-plans-eq1-clause-bytes
returns-else-plans-eq1-clause-bytes c =
    let plans = map arc_value c.args.plans.now in
    let body = banks_bytes plans (banks_parts plans c.args.stands) in
    let both = some-not-one ((goal.at.returns-else-plans-eq1-clause-bytes c).Else-plans-eq1) in
    many-encoding plans c.args.stands c.end_banks.new.room.bytes c.put_banks-else-plans-eq1.new.bytes.bytes (length c.args.plans.now) both.0 both.1 (sym (length-map c.args.plans.now arc_value))
    (c.put_banks-else-plans-eq1.ensures.bytes ∙ ap (λ (xs : List ℕ). xs ++ body) c.begin_banks.ensures.bytes) c.end_banks.ensures.bytes

pub returns-else-plans-eq1-clause-len : goal.returns-else-plans-eq1-clause-len
returns-else-plans-eq1-clause-len c =
    let room = many-room ((goal.at.returns-else-plans-eq1-clause-len c).Else-plans-eq1) in
    let whole = ap (λ (xs : List ℕ). length xs) c.end_banks.ensures.bytes ∙ length-sealed c.put_banks-else-plans-eq1.new.bytes.bytes in
    let head = ap (λ (xs : List ℕ). length xs) c.begin_banks.ensures.bytes ∙ length-banks_header (length c.args.plans.now) in
    omega (arith, room.0, whole, head, c.put_banks-else-plans-eq1.ensures.len)

pub returns-else-plans-eq1-clause-limit : goal.returns-else-plans-eq1-clause-limit
returns-else-plans-eq1-clause-limit c =
    let limit = ap (λ (v : LevelRoomView). v.limit) c.self.view_is in
    let whole = ap (λ (xs : List ℕ). length xs) c.end_banks.ensures.bytes ∙ length-sealed c.put_banks-else-plans-eq1.new.bytes.bytes in
    let head = ap (λ (xs : List ℕ). length xs) c.begin_banks.ensures.bytes ∙ length-banks_header (length c.args.plans.now) in
    omega (arith, limit, whole, head, c.put_banks-else-plans-eq1.ensures.len, c.put_banks-else-plans-eq1.ensures.spare, c.begin_banks.ensures.spare, c.end_banks.ensures.spare, c.clear.ensures.spare)
