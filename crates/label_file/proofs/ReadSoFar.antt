-- Entries of a label file that were read so far.
use Rattle.std.proofs.Common.{◌≡◌, ◌≢◌, ℕ, ◌+◌, ◌-◌, ◌*◌, ◌^◌, ◌<◌, ◌≤◌, List, [], ◌∷◌, ◌++◌, length, drop, refl, sym, ap, ◌∙◌, subst, inl, inr, arith, append_assoc, length-append}
use Rattle.std.proofs.lemmas.List.{nil_from_length, drop_at}
use Rattle.wf_model.specs.Lists.{IsIn, AllDiffer}
use Rattle.wf_model.specs.Grammar.{Grammar}
use Rattle.bit_pack.specs.Bits.{Holds}
use Rattle.label_model.specs.Reading.{IsLabelBytes}
use Rattle.label_model.specs.Files.{Entry, entry_bytes, names_of_entries, head_bytes, Answer, Accepted, Truncated, BadName, NameTwice, BadLabel, IsFront, ReadsFrom, at_end, cut, bad_name, name_twice, bad_label, whole, Opens, head}
use Rattle.label_model.proofs.FileReadings.{length-entry, length-head}
use Rattle.label_file.specs.Stored.{EntryHeld, IsHeldOf, AreHeldOf, IsStoreFor, IsStoreFault, IsStoreOf, names_held}
use Rattle.label_file.specs.Adding.{IsAdded, IsRefused}
use Rattle.label_file.specs.declared.fault.StoreFault.{StoreFault}
use Rattle.label_file.specs.declared.fault.StoreFault.TheVariants.{NotLabels as IsNoLabels, OtherSpec as IsOfOther, Truncated as IsTruncated, BadName as HasBadName, NameTwice as HasNameTwice, BadLabel as HasBadLabel, NoMemory as HasNoMemory}

-- Entries were read, and are held. However the rest is read behind them, so are all the bytes
pub record AreReadSoFar (g : Grammar) (digests : List (List ℕ)) (bytes rest : List ℕ) (hs : List EntryHeld) : Type 0 where
  pub before : List Entry
  pub held : AreHeldOf g before hs
  pub passed : List ℕ
  pub parts : bytes ≡ passed ++ rest
  pub offset : ℕ
  pub place : offset + length rest ≡ length bytes
  pub few : 3 * length hs ≤ offset
  pub goes_on : (a : Answer) → ReadsFrom g offset before rest a → Opens g digests bytes a

-- what is held has the names of the entries
pub names_same : (g : Grammar) (es : List Entry) (hs : List EntryHeld) → AreHeldOf g es hs → names_held hs ≡ names_of_entries es
names_same g [] [] h = refl
names_same g [] (k ∷ hs) h = absurd h
names_same g (e ∷ es) [] h = absurd h
names_same g (e ∷ es) (k ∷ hs) h = ap (λ n. n ∷ names_held hs) h.0.name ∙ ap (λ ns. e.name ∷ ns) (names_same g es hs h.1)

-- what is held is held of an entry
pub held_from : (g : Grammar) (es : List Entry) (hs : List EntryHeld) → AreHeldOf g es hs → (h : EntryHeld) → IsIn h hs → (e : Entry) × IsIn e es × IsHeldOf g e h
held_from g [] [] a h i = absurd i
held_from g [] (x ∷ hs) a h i = absurd a
held_from g (e ∷ es) [] a h i = absurd i
held_from g (e ∷ es) (x ∷ hs) a h (inl p) = (e, inl refl, subst (λ (z : EntryHeld). IsHeldOf g e z) (sym p) a.0)
held_from g (e ∷ es) (x ∷ hs) a h (inr i) = let r = held_from g es hs a.1 h i in (r.0, inr r.1, r.2)

-- what holds entries whose names differ is a store of the grammar
pub store_of_held : (g : Grammar) (es : List Entry) (hs : List EntryHeld) → AreHeldOf g es hs → AllDiffer (names_of_entries es) → IsStoreFor g hs
store_of_held g es hs held differ = record {
  labels = λ h i. (held_from g es hs held h i).2.label;
  differ = subst AllDiffer (sym (names_same g es hs held)) differ;
}

-- as many are held
pub as_many : (g : Grammar) (es : List Entry) (hs : List EntryHeld) → AreHeldOf g es hs → length hs ≡ length es
as_many g [] [] h = refl
as_many g [] (k ∷ hs) h = absurd h
as_many g (e ∷ es) [] h = absurd h
as_many g (e ∷ es) (k ∷ hs) h = let n = as_many g es hs h.1 in omega arith

-- one more is held
pub held_behind : (g : Grammar) (es : List Entry) (hs : List EntryHeld) (e : Entry) (k : EntryHeld) → AreHeldOf g es hs → IsHeldOf g e k → AreHeldOf g (es ++ e ∷ []) (hs ++ k ∷ [])
held_behind g [] [] e k h one = (one, tt)
held_behind g [] (j ∷ hs) e k h one = absurd h
held_behind g (d ∷ es) [] e k h one = absurd h
held_behind g (d ∷ es) (j ∷ hs) e k h one = (h.0, held_behind g es hs e k h.1 one)

-- none was read where the head ends
pub none_read : (g : Grammar) (digests : List (List ℕ)) (found bytes rest : List ℕ) → IsIn found digests → length found ≡ 32 → bytes ≡ head_bytes found ++ rest → AreReadSoFar g digests bytes rest []
none_read g digests found bytes rest i l q = record {
  before = [];
  held = tt;
  passed = head_bytes found;
  parts = q;
  offset = 36;
  place = (let n = ap length q in let m = length-append (head_bytes found) rest in omega (arith, n, m, length-head found l));
  few = omega arith;
  goes_on = λ a r. head found rest i l q r;
}

module _ (g : Grammar) (digests : List (List ℕ)) (bytes rest : List ℕ) (hs : List EntryHeld) (read : AreReadSoFar g digests bytes rest hs) where
  -- a number that is told of what is held is that of the entry that follows
  same_number : (entry : ℕ) → entry ≡ length hs → length read.before ≡ entry
  same_number entry q = sym (q ∙ as_many g read.before hs read.held)

  -- a name is that of an entry before exactly if it is held
  is_before : (name : List ℕ) → IsIn name (names_held hs) → IsIn name (names_of_entries read.before)
  is_before name i = subst (IsIn name) (names_same g read.before hs read.held) i

  is_held : (name : List ℕ) → IsIn name (names_of_entries read.before) → IsIn name (names_held hs)
  is_held name i = subst (IsIn name) (sym (names_same g read.before hs read.held)) i

  -- one more entry was read
  pub one_more : (e : Entry) (behind : List ℕ) (new : List EntryHeld) → IsFront e rest behind → IsAdded g hs e new → AreReadSoFar g digests bytes behind new
  one_more e behind new front added =
      let one : IsHeldOf g e (record { name = e.name; bits = added.bits }) = record { name = refl; label = added.label; bytes = added.bytes } in
      let label : IsLabelBytes g e.label = (added.label.0, added.label.1, subst (Holds e.label) added.label.2 added.bytes) in
      let n = ap length front.is in
      let m = length-append (entry_bytes e) behind in
      let l = length-append hs (record { name = e.name; bits = added.bits } ∷ []) in
      let k = ap length added.is in
      record {
        before = read.before ++ e ∷ [];
        held = subst (λ z. AreHeldOf g (read.before ++ e ∷ []) z) (sym added.is) (held_behind g read.before hs e _ read.held one);
        passed = read.passed ++ entry_bytes e;
        parts = read.parts ∙ (ap (λ z. read.passed ++ z) front.is ∙ sym (append_assoc read.passed (entry_bytes e) behind));
        offset = read.offset + length (entry_bytes e);
        place = omega (arith, n, m, read.place);
        few = omega (arith, k, l, length-entry e, read.few);
        goes_on = λ a r. read.goes_on a (whole e front added.named (λ i. added.first (is_held e.name i)) label r);
      }

  -- the entry that follows stands where what is left begins
  pub stands_at : (e : Entry) (behind : List ℕ) → IsFront e rest behind → (place : ℕ) → place ≡ length bytes - length rest → IsFront e (drop place bytes) behind
  stands_at e behind front place q =
      let n = ap length read.parts in
      let m = length-append read.passed rest in
      let long : length read.passed ≡ place = omega (arith, n, m, q) in
      let same : drop place bytes ≡ rest = ap (drop place) read.parts ∙ drop_at read.passed rest place long in
      record { room = front.room; is = same ∙ front.is }

  pub stands_before : (e : Entry) (behind : List ℕ) → IsFront e rest behind → length bytes ≤ 2 ^ 30 → length bytes - length rest < 2 ^ 30
  stands_before e behind front few =
      let n = ap length front.is in
      let m = length-append (entry_bytes e) behind in
      omega (arith, n, m, length-entry e, read.place, few)

  -- nothing is left
  pub all_read : length rest ≡ 0 → IsStoreOf g digests bytes hs
  all_read n = record {
    entries = read.before;
    read = read.goes_on (Accepted read.before) (subst (λ z. ReadsFrom g read.offset read.before z (Accepted read.before)) (sym (nil_from_length rest n)) at_end);
    held = read.held;
  }

  -- no whole entry is left
  pub none_whole : length rest ≢ 0 → ((e : Entry) (behind : List ℕ) → IsFront e rest behind → ⊥) → (offset : ℕ) → offset + length rest ≡ length bytes → Opens g digests bytes (Truncated offset)
  none_whole some none offset q =
      let same : read.offset ≡ offset = omega (arith, read.place, q) in
      subst (λ z. Opens g digests bytes (Truncated z)) same (read.goes_on (Truncated read.offset) (cut (λ q. some (ap length q)) none))

  -- the entry that follows is refused
  pub refused : (e : Entry) (behind : List ℕ) (f : StoreFault) → IsFront e rest behind → IsRefused g hs e f → IsStoreFault g digests bytes f
  refused e behind IsNoLabels front h = absurd h
  refused e behind IsOfOther front h = absurd h
  refused e behind (IsTruncated offset) front h = absurd h
  refused e behind (HasBadName entry) front h = subst (λ n. Opens g digests bytes (BadName n)) (same_number entry h.0) (read.goes_on _ (bad_name e front h.1))
  refused e behind (HasNameTwice entry) front h = subst (λ n. Opens g digests bytes (NameTwice n)) (same_number entry h.0) (read.goes_on _ (name_twice e front h.1 (is_before e.name h.2)))
  refused e behind (HasBadLabel entry) front h =
      subst (λ n. Opens g digests bytes (BadLabel n)) (same_number entry h.0) (read.goes_on _ (bad_label e front h.1 (λ i. h.2 (is_held e.name i)) h.3))
  refused e behind HasNoMemory front h = tt
