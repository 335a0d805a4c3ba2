-- Bytes are read as a label file: each has an answer.
use Rattle.std.proofs.Common.{◌≡◌, ◌⊎◌, ℕ, zero, suc, ◌+◌, ◌*◌, ◌/◌, ◌%◌, ◌<◌, ◌≤◌, List, [], ◌∷◌, ◌++◌, length, take, drop, refl, sym, ap, ◌∙◌, subst, inl, inr, ⊎_elim, arith, length-append, length-drop}
use Rattle.std.specs.Prelude.{codes}
use Rattle.std.proofs.lemmas.Bool.{cases_lt}
use Rattle.std.proofs.lemmas.List.{length-take-le, take-append-drop, drop_at}
use Rattle.wf_model.specs.Lists.{IsIn}
use Rattle.wf_model.specs.Grammar.{Grammar}
use Rattle.wf_model.specs.Items.{IsItemName}
use Rattle.wf_model.proofs.Deciding.{Either, bytes_either, below_either, within_either, in_either}
use Rattle.name_text.proofs.NamesOrNot.{item_name_either}
use Rattle.label_model.specs.Files.{head_bytes, Entry, entry_bytes, names_of_entries, Answer, Accepted, NotLabels, OtherSpec, Truncated, BadName, NameTwice, BadLabel, IsFront, ReadsFrom, at_end, cut, bad_name, name_twice, bad_label, whole, Opens, short, other_start, other_digest, head}
use Rattle.label_model.specs.Reading.{IsLabelBytes}
use Rattle.label_model.proofs.FileReadings.{length-entry, entry_spread}
use Rattle.label_model.proofs.LabelOrNot.{label_either}

-- an entry stands at the front of bytes
abbrev HasFront : List ℕ → Type 0
HasFront bytes = (e : Entry) × (rest : List ℕ) × IsFront e bytes rest

-- what an entry at the front tells of the first byte and of what follows it
record IsToldOf (e : Entry) (rest : List ℕ) (n : ℕ) (bytes : List ℕ) : Type 0 where
  count : n ≡ length e.name
  small : n < 256
  room : n ≤ length bytes
  behind : drop n bytes ≡ length e.label / 256 ∷ (length e.label % 256 ∷ (e.label ++ rest))

front_tells : (e : Entry) (rest : List ℕ) (n : ℕ) (bytes : List ℕ) → IsFront e (n ∷ bytes) rest → IsToldOf e rest n bytes
front_tells e rest n bytes f =
    let all = f.is ∙ entry_spread e rest in
    let count : n ≡ length e.name = cc in
    let others : bytes ≡ e.name ++ (length e.label / 256 ∷ (length e.label % 256 ∷ (e.label ++ rest))) = cc in
    let few = f.room.0 in
    let long = ap length others in
    let sum = length-append e.name (length e.label / 256 ∷ (length e.label % 256 ∷ (e.label ++ rest))) in
    record {
      count = count;
      small = omega arith;
      room = omega arith;
      behind = ap (drop n) others ∙ drop_at e.name (length e.label / 256 ∷ (length e.label % 256 ∷ (e.label ++ rest))) n (sym count);
    }

-- two bytes of a length, and what follows them
abbrev IsCounted : List ℕ → Type 0
IsCounted bytes = (high : ℕ) × (low : ℕ) × (rest : List ℕ) × (bytes ≡ high ∷ (low ∷ rest)) × (high < 256) × (low < 256) × (high * 256 + low ≤ length rest)

counted_either : (bytes : List ℕ) → Either (IsCounted bytes)
counted_either [] = inr (λ h. let e = h.3 in absurd (cc))
counted_either (high ∷ []) = inr (λ h. let e = h.3 in absurd (cc))
counted_either (high ∷ low ∷ rest) = go (below_either high 256) (below_either low 256) (within_either (high * 256 + low) (length rest))
  where
    same_high : (h : IsCounted (high ∷ low ∷ rest)) → high ≡ h.0
    same_high h = let e = h.3 in cc

    same_low : (h : IsCounted (high ∷ low ∷ rest)) → low ≡ h.1
    same_low h = let e = h.3 in cc

    same_rest : (h : IsCounted (high ∷ low ∷ rest)) → rest ≡ h.2
    same_rest h = let e = h.3 in cc

    go : Either (high < 256) → Either (low < 256) → Either (high * 256 + low ≤ length rest) → Either (IsCounted (high ∷ low ∷ rest))
    go (inl a) (inl b) (inl c) = inl (high, low, rest, refl, a, b, c)
    go (inr n) b c = inr (λ h. n (subst (λ k. k < 256) (sym (same_high h)) h.4))
    go (inl a) (inr n) c = inr (λ h. n (subst (λ k. k < 256) (sym (same_low h)) h.5))
    go (inl a) (inl b) (inr n) = inr (λ h. let i = same_high h in let j = same_low h in let k = ap length (same_rest h) in let l = h.6 in n (omega arith))

-- what an entry at the front has behind its name
front_counted : (e : Entry) (rest : List ℕ) (n : ℕ) (bytes : List ℕ) → IsFront e (n ∷ bytes) rest → IsCounted (drop n bytes)
front_counted e rest n bytes f =
    let t = front_tells e rest n bytes f in
    let few = f.room.1 in
    let l = length-append e.label rest in
    (length e.label / 256, length e.label % 256, e.label ++ rest, t.behind, omega arith, omega arith, omega arith)

-- a name and a label of these lengths are an entry
front_of : (n : ℕ) (bytes : List ℕ) → n < 256 → n ≤ length bytes → IsCounted (drop n bytes) → HasFront (n ∷ bytes)
front_of n bytes small room c =
    let size = c.0 * 256 + c.1 in
    let high = c.4 in
    let low = c.5 in
    let named = length-take-le n bytes room in
    let labelled = length-take-le size c.2 c.6 in
    let of_high : length (take size c.2) / 256 ≡ c.0 = omega arith in
    let of_low : length (take size c.2) % 256 ≡ c.1 = omega arith in
    let e : Entry = record { name = take n bytes; label = take size c.2 } in (
      e,
      drop size c.2,
      record {
        room = (omega arith, omega arith);
        is = sym (entry_spread e (drop size c.2)
            ∙ (ap (λ k. k ∷ (take n bytes ++ (length (take size c.2) / 256 ∷ (length (take size c.2) % 256 ∷ (take size c.2 ++ drop size c.2))))) named
            ∙ (ap (λ k. n ∷ (take n bytes ++ (k ∷ (length (take size c.2) % 256 ∷ (take size c.2 ++ drop size c.2))))) of_high
            ∙ (ap (λ k. n ∷ (take n bytes ++ (c.0 ∷ (k ∷ (take size c.2 ++ drop size c.2))))) of_low
            ∙ (ap (λ x. n ∷ (take n bytes ++ (c.0 ∷ (c.1 ∷ x)))) (take-append-drop size c.2)
            ∙ (ap (λ x. n ∷ (take n bytes ++ x)) (sym c.3)
            ∙ ap (λ x. n ∷ x) (take-append-drop n bytes)))))));
      },
    )

-- an entry stands at the front, or none does
front_or_none : (bytes : List ℕ) → HasFront bytes ⊎ ((e : Entry) (rest : List ℕ) → IsFront e bytes rest → ⊥)
front_or_none [] = inr (λ e rest f. let n = ap length f.is in let m = length-append (entry_bytes e) rest in let l = length-entry e in absurd (omega arith))
front_or_none (n ∷ bytes) = go (below_either n 256) (within_either n (length bytes)) (counted_either (drop n bytes))
  where
    go : Either (n < 256) → Either (n ≤ length bytes) → Either (IsCounted (drop n bytes)) → HasFront (n ∷ bytes) ⊎ ((e : Entry) (rest : List ℕ) → IsFront e (n ∷ bytes) rest → ⊥)
    go (inl small) (inl room) (inl c) = inl (front_of n bytes small room c)
    go (inr not) b c = inr (λ e rest f. not (front_tells e rest n bytes f).small)
    go (inl small) (inr not) c = inr (λ e rest f. not (front_tells e rest n bytes f).room)
    go (inl small) (inl room) (inr not) = inr (λ e rest f. not (front_counted e rest n bytes f))

module _ (g : Grammar) where
  -- entries are read on behind an entry, where the others are
  read_on : (offset : ℕ) (before : List Entry) (bytes rest : List ℕ) (e : Entry) → IsFront e bytes rest → ((o : ℕ) (es : List Entry) → (a : Answer) × ReadsFrom g o es rest a) → (a : Answer) × ReadsFrom g offset before bytes a
  read_on offset before bytes rest e f next = go (item_name_either e.name) (in_either bytes_either e.name (names_of_entries before)) (label_either g e.label)
    where
      go : Either (IsItemName e.name) → Either (IsIn e.name (names_of_entries before)) → Either (IsLabelBytes g e.label) → (a : Answer) × ReadsFrom g offset before bytes a
      go (inr not) b c = (BadName (length before), bad_name e f not)
      go (inl name) (inl twice) c = (NameTwice (length before), name_twice e f name twice)
      go (inl name) (inr new) (inr not) = (BadLabel (length before), bad_label e f name new not)
      go (inl name) (inr new) (inl label) = let r = next (offset + length (entry_bytes e)) (before ++ e ∷ []) in (r.0, whole e f name new label r.1)

  reads_within : (fuel offset : ℕ) (before : List Entry) (bytes : List ℕ) → length bytes < fuel → (a : Answer) × ReadsFrom g offset before bytes a
  reads_within zero offset before bytes l = absurd (omega arith)
  reads_within (suc fuel) offset before [] l = (Accepted before, at_end)
  reads_within (suc fuel) offset before (b ∷ bytes) l = ⊎_elim
      (λ r. read_on offset before (b ∷ bytes) r.1 r.0 r.2 (λ o es. reads_within fuel o es r.1 (let n = ap length r.2.is in let m = length-append (entry_bytes r.0) r.1 in let k = length-entry r.0 in omega arith)))
      (λ none. (Truncated offset, cut (λ e. absurd (cc)) none))
      (front_or_none (b ∷ bytes))

  -- bytes have an answer, whatever the digests
  pub some_opening : (digests : List (List ℕ)) (bytes : List ℕ) → (a : Answer) × Opens g digests bytes a
  some_opening digests bytes = ⊎_elim (λ l. (NotLabels, short l)) (λ l. by_start l (bytes_either (take 4 bytes) (codes "WFL1"))) (cases_lt (length bytes) 36)
    where
      found : List ℕ
      found = take 32 (drop 4 bytes)

      rest : List ℕ
      rest = drop 32 (drop 4 bytes)

      split : take 4 bytes ≡ codes "WFL1" → bytes ≡ head_bytes found ++ rest
      split e = sym (take-append-drop 4 bytes) ∙ (ap (λ x. x ++ drop 4 bytes) e ∙ ap (λ x. codes "WFL1" ++ x) (sym (take-append-drop 32 (drop 4 bytes))))

      size : 36 ≤ length bytes → length found ≡ 32
      size l = length-take-le 32 (drop 4 bytes) (let n = length-drop 4 bytes in omega arith)

      by_digest : 36 ≤ length bytes → take 4 bytes ≡ codes "WFL1" → Either (IsIn found digests) → (a : Answer) × Opens g digests bytes a
      by_digest l e (inl here) =
          let r = reads_within (suc (length rest)) 36 [] rest (omega arith) in
          (r.0, head found rest here (size l) (split e) r.1)
      by_digest l e (inr other) = (OtherSpec, other_digest found rest (size l) (split e) other)

      by_start : 36 ≤ length bytes → Either (take 4 bytes ≡ codes "WFL1") → (a : Answer) × Opens g digests bytes a
      by_start l (inl e) = by_digest l e (in_either bytes_either found digests)
      by_start l (inr not) = (NotLabels, other_start (λ x e. not (ap (take 4) e)))
