-- How a reader goes on in its file, and that it reads it once.
use Rattle.std.proofs.Common.{◌≡◌, ◌⊎◌, ◌<◌, ◌+◌, ℕ, zero, suc, Bool, true, false, List, [], ◌∷◌, length, drop, nat_eq, Option, Some, None, option_map, Result, Ok, Err, OnOk, refl, sym, ap, subst, ◌∙◌, inl, inr, arith, true≢false}
use Rattle.std.proofs.lemmas.Bool.Decides.{nat_tests}
use Rattle.wf_io.specs.Readings.{Reading, after_read, IsReadOn, IsOnward, read_to, IsReadOnce}
use Rattle.wf_io.specs.Readers.{Reader, reached, HasReadTo, IsReading, GoesOnReading, HasReadOnce, FillsLine, TellsLine}
use Rattle.wf_io.specs.Steps.{holding, SeesEnd, Grew, HasReadOn, Skips, Lent, Refused, Sought}
use Rattle.wf_io.specs.declared.lines.LineFault.{LineFault}
use Rattle.wf_io.specs.declared.lines.LineFault.TheVariants.{LineTooLong, FileTooLong, Fault}

abbrev one : List ℕ → ℕ → Reading
one name place = record { name = name; place = place }

-- where a reading of a file is the last, it may be gone on with
pub onward_to : (name : List ℕ) (place : ℕ) (opened now : Option (List Reading)) → now ≡ read_to name place opened → IsOnward name place now
onward_to name place None now is = λ readings told. let e : ◌≡◌ {A = Option (List Reading)} None (Some readings) = sym is ∙ told in absurd (cc)
onward_to name place (Some before) now is = λ readings told. let e : one name place ∷ before ≡ readings = cc in inr (before, sym e)

-- at the beginning of a file a reading may be begun
pub onward_first : (name : List ℕ) (place : ℕ) (now : Option (List Reading)) → place ≡ 0 → IsOnward name place now
onward_first name place now is = λ readings told. inl is

-- a reader may go on where it is
pub reader_onward : (r : Reader) (now : Option (List Reading)) (at : ℕ) → at ≡ reached r → IsReading r now → IsOnward r.name at now
reader_onward r now at is (opened, read) = subst (λ n. IsOnward r.name n now) (sym is) (go read)
  where
    go : HasReadTo r opened now → IsOnward r.name (reached r) now
    go (inl h) = onward_first r.name (reached r) now h.1
    go (inr h) = onward_to r.name (reached r) opened now h.0

-- a reading that is begun, and one that is gone on with
begun : (name : List ℕ) (count : ℕ) (opened : Option (List Reading)) → option_map (after_read name 0 count) opened ≡ read_to name count opened
begun name count None = refl
begun name count (Some readings) = refl

gone_on : (name : List ℕ) (place count : ℕ) (opened : Option (List Reading)) → option_map (after_read name (suc place) count) (read_to name (suc place) opened) ≡ read_to name (suc place + count) opened
gone_on name place count None = refl
gone_on name place count (Some readings) = refl

-- a file that is read whole, of which so many bytes were read
abbrev pub HasCome : List ℕ → ℕ → Option (List Reading) → Option (List Reading) → Type 0
HasCome name place opened now = ((now ≡ opened) × (place ≡ 0)) ⊎ ((now ≡ read_to name place opened) × (place ≡ 0 → ⊥))

-- so a reading goes on, from where it is
pub read_further : (name : List ℕ) (place count : ℕ) (opened before after : Option (List Reading)) → HasCome name place opened before → IsReadOn name place count before after → after ≡ read_to name (place + count) opened
read_further name place count opened before after (inl h) moved =
    let far : count ≡ place + count = omega (arith, h.1) in
    subst (λ n. after ≡ option_map (after_read name n count) before) h.1 moved ∙ (ap (option_map (after_read name 0 count)) h.0 ∙ (begun name count opened ∙ ap (λ n. read_to name n opened) far))
read_further name zero count opened before after (inr h) moved = absurd (h.1 refl)
read_further name (suc place) count opened before after (inr h) moved = moved ∙ (ap (option_map (after_read name (suc place) count)) h.0 ∙ gone_on name place count opened)

-- the same where the reader goes on
reader_further : (old : Reader) (opened before after : Option (List Reading)) (at count : ℕ) → at ≡ reached old → old.ended ≡ false → HasReadTo old opened before → IsReadOn old.name at count before after → after ≡ read_to old.name (reached old + count) opened
reader_further old opened before after at count is unended read moved = read_further old.name (reached old) count opened before after (go read) (subst (λ n. IsReadOn old.name n count before after) is moved)
  where
    go : HasReadTo old opened before → HasCome old.name (reached old) opened before
    go (inl h) = inl h
    go (inr h) = inr (h.0, λ z. true≢false (sym (h.1 z) ∙ unended))

-- it has read its file once, whatever it holds then
pub further_once : {T E : Type 0} (old new : Reader) (before after : Option (List Reading)) (at : ℕ) (result : Result T E) → at ≡ reached old → old.ended ≡ false → HasReadOn old new at result before after → HasReadOnce old before after
further_once old new before after at result is unended moved = λ opened read. inr (reached old + moved.0, reader_further old opened before after at moved.0 is unended read moved.1)

-- and where it holds what was read, it has read up to there
pub further_reading : {T E : Type 0} (old new : Reader) (before after : Option (List Reading)) (at : ℕ) (result : Result T E) → at ≡ reached old → old.ended ≡ false → HasReadOn old new at result before after →
    OnOk result ((new.name ≡ old.name) × (new.place ≡ old.place) × (reached new ≡ 0 → new.ended ≡ true)) → OnOk result (GoesOnReading old new before after)
further_reading old new before after at (Err e) is unended moved end = tt
further_reading old new before after at (Ok x) is unended moved end = λ opened read.
    let e = reader_further old opened before after at moved.0 is unended read moved.1 in
    let far : reached old + moved.0 ≡ reached new = omega (arith, moved.2, end.1) in
    inr (subst (λ n. after ≡ read_to n (reached new) opened) (sym end.0) (subst (λ n. after ≡ read_to old.name n opened) far e), end.2)

-- which line was lent or refused last is then told
pub sees_tells : (old new : Reader) (result : Result (Unit {0}) LineFault) → SeesEnd old new result → FillsLine old new result
sees_tells old new (Ok x) sees = (omega (arith, ap (λ (r : Reader). r.number) sees), ap (λ (r : Reader). r.line) sees)
sees_tells old new (Err LineTooLong) sees = absurd sees
sees_tells old new (Err FileTooLong) sees = let number = ap (λ (r : Reader). r.number) sees in (omega (arith, number), ap (λ (r : Reader). r.line) sees ∙ sym number)
sees_tells old new (Err Fault) sees = (omega (arith, ap (λ (r : Reader). r.number) sees), ap (λ (r : Reader). r.line) sees)

pub grew_tells : (most : ℕ) (old new : Reader) (result : Result (Unit {0}) LineFault) → Grew most old new result → FillsLine old new result
grew_tells most old new (Ok x) grew = (omega (arith, ap (λ (r : Reader). r.number) grew.3), ap (λ (r : Reader). r.line) grew.3)
grew_tells most old new (Err why) grew = subst (λ f. FillsLine old new (Err f)) (sym grew.0) (omega (arith, ap (λ (r : Reader). r.number) grew.1), ap (λ (r : Reader). r.line) grew.1)

-- a reader that sees the end of its file, or holds a piece more, stands where it was
pub sees_end_at : (old new : Reader) (result : Result (Unit {0}) LineFault) → SeesEnd old new result → OnOk result ((new.name ≡ old.name) × (new.place ≡ old.place) × (reached new ≡ 0 → new.ended ≡ true))
sees_end_at old new (Ok x) sees = (ap (λ (r : Reader). r.name) sees, ap (λ (r : Reader). r.place) sees, λ z. ap (λ (r : Reader). r.ended) sees)
sees_end_at old new (Err e) sees = tt

pub grew_at : (most : ℕ) (old new : Reader) (result : Result (Unit {0}) LineFault) → Grew most old new result → OnOk result ((new.name ≡ old.name) × (new.place ≡ old.place) × (reached new ≡ 0 → new.ended ≡ true))
grew_at most old new (Err e) grew = tt
grew_at most old new (Ok x) grew =
    let place = ap (λ (r : Reader). r.place) grew.3 in (
      ap (λ (r : Reader). r.name) grew.3,
      place,
      λ z. ap (λ (r : Reader). r.ended) grew.3 ∙ (let none : grew.0 ≡ 0 = omega (arith, z, grew.2) in ap (λ n. nat_eq n 0) none),
    )

-- where nothing is read, a reader that holds as much has read as far
pub still_reading : (old new : Reader) (now : Option (List Reading)) → new.name ≡ old.name → reached new ≡ reached old → new.ended ≡ old.ended → GoesOnReading old new now now
still_reading old new now name far ended = λ opened read. go opened read
  where
    go : (opened : Option (List Reading)) → HasReadTo old opened now → HasReadTo new opened now
    go opened (inl h) = inl (h.0, far ∙ h.1)
    go opened (inr h) = inr (
      subst (λ n. now ≡ read_to n (reached new) opened) (sym name) (subst (λ n. now ≡ read_to old.name n opened) (sym far) h.0),
      λ z. ended ∙ h.1 (sym far ∙ z),
    )

pub sought_reading : (old new : Reader) (result : Result Bool LineFault) (now : Option (List Reading)) → Sought old new result → GoesOnReading old new now now
sought_reading old new (Ok true) now h = still_reading old new now h.name h.reached h.ended
sought_reading old new (Ok false) now h = still_reading old new now h.0.name h.0.reached h.0.ended
sought_reading old new (Err why) now h = still_reading old new now h.1.name h.1.reached h.1.ended

-- what was read so far was read once
pub reading_once : (r : Reader) (now : Option (List Reading)) → HasReadOnce r now now
reading_once r now opened (inl h) = inl h.0
reading_once r now opened (inr h) = inr (reached r, h.0)

-- it has come further where bytes were read
pub come_further : (name : List ℕ) (place new count : ℕ) (opened before after : Option (List Reading)) → HasCome name place opened before → IsReadOn name place count before after → new ≡ place + count → place < new → HasCome name new opened after
come_further name place new count opened before after come moved far some = inr (
  subst (λ n. after ≡ read_to name n opened) (sym far) (read_further name place count opened before after come moved),
  λ z. absurd (omega (arith, z, some)),
)

-- and it is read once, however the call ended
pub come_once : (name : List ℕ) (place count : ℕ) (opened before after : Option (List Reading)) → HasCome name place opened before → IsReadOn name place count before after → IsReadOnce name opened after
come_once name place count opened before after come moved = inr (place + count, read_further name place count opened before after come moved)

-- a reading that goes on is one
pub reading_on : (old new : Reader) (before after : Option (List Reading)) → GoesOnReading old new before after → IsReading old before → IsReading new after
reading_on old new before after on h = (h.0, on h.0 h.1)

-- what is read once from a later place on is read once
pub once_after : (old new : Reader) (before between after : Option (List Reading)) → new.name ≡ old.name → GoesOnReading old new before between → HasReadOnce new between after → HasReadOnce old before after
once_after old new before between after name on once = λ opened read. subst (λ n. IsReadOnce n opened after) name (once opened (on opened read))

-- a file of which so many bytes were read, by calls one after the other
pub whole_onward : (name : List ℕ) (place : ℕ) (opened now : Option (List Reading)) → HasCome name place opened now → IsOnward name place now
whole_onward name place opened now (inl h) = onward_first name place now h.1
whole_onward name place opened now (inr h) = onward_to name place opened now h.0
