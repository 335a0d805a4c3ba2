-- Names of entries to come, with their hashes.
use Rattle.std.proofs.Common.{◌≡◌, ℕ, suc, ◌+◌, ◌<◌, List, [], ◌∷◌, ◌++◌, length, take, drop, get_or, set, sym, ap, ◌∙◌, subst, arith, append_assoc}
use Rattle.std.proofs.Math.Seq.{drop-cons}
use Rattle.std.proofs.lemmas.List.{take_more_set}
use Rattle.wf_names.specs.declared.keyed.KeyedHash.{KeyedHash}
use Rattle.label_model.specs.Files.{Entry, IsFront}
use Rattle.label_model.proofs.FileReadings.{one_front}
use Rattle.label_file.specs.declared.key.HashedName.{HashedName}
use Rattle.label_file.specs.Hashed.{AreNamesAhead, IsHashed}

module _ (keyed : KeyedHash) where
  -- where no entry stands, nothing is said of names
  pub none_ahead : (bytes : List ℕ) (ns : List HashedName) → ((e : Entry) (rest : List ℕ) → IsFront e bytes rest → ⊥) → AreNamesAhead keyed bytes ns
  none_ahead bytes [] none = tt
  none_ahead bytes (n ∷ ns) none = λ e rest h. absurd (none e rest h)

  -- the name of the first entry, and those of the entries behind it
  first_ahead : (bytes rest : List ℕ) (e : Entry) (n : HashedName) (ns : List HashedName) → IsFront e bytes rest → n.bytes.now ≡ e.name → IsHashed keyed n → AreNamesAhead keyed rest ns → AreNamesAhead keyed bytes (n ∷ ns)
  first_ahead bytes rest e n ns h same hashed ahead = λ f behind k.
      let q = one_front e f rest behind (sym h.is ∙ k.is) in
      (same ∙ ap (λ (x : Entry). x.name) q.0, hashed, subst (λ z. AreNamesAhead keyed z ns) q.1 ahead)

  -- one name more is hashed
  pub one_ahead : (bytes left rest : List ℕ) (e : Entry) (n : HashedName) (names : List HashedName) (i : ℕ) → i < length names → ((ns : List HashedName) → AreNamesAhead keyed left ns → AreNamesAhead keyed bytes (take i names ++ ns)) →
      IsFront e left rest → n.bytes.now ≡ e.name → IsHashed keyed n → (ns : List HashedName) → AreNamesAhead keyed rest ns → AreNamesAhead keyed bytes (take (i + 1) (set names i n) ++ ns)
  one_ahead bytes left rest e n names i l so_far h same hashed ns ahead =
      let parts : take (i + 1) (set names i n) ++ ns ≡ take i names ++ (n ∷ ns) = ap (λ z. z ++ ns) (take_more_set names i n l) ∙ append_assoc (take i names) (n ∷ []) ns in
      subst (AreNamesAhead keyed bytes) (sym parts) (so_far (n ∷ ns) (first_ahead left rest e n ns h same hashed ahead))

  -- the next name is that of the next entry
  pub next_ahead : (bytes : List ℕ) (names : List HashedName) (at : ℕ) (d : HashedName) → at < length names → AreNamesAhead keyed bytes (drop at names) → (e : Entry) (rest : List ℕ) → IsFront e bytes rest →
      ((get_or names at d).bytes.now ≡ e.name) × IsHashed keyed (get_or names at d) × AreNamesAhead keyed rest (drop (at + 1) names)
  next_ahead bytes names at d l ahead e rest h =
      let one : suc at ≡ at + 1 = omega arith in
      let r = subst (AreNamesAhead keyed bytes) (drop-cons names at d l) ahead e rest h in
      (r.0, r.1, subst (λ k. AreNamesAhead keyed rest (drop k names)) one r.2)
