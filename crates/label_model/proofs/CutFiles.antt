-- Where a file of entries may be cut, and what a file of good entries is then read as.
use Rattle.std.proofs.Common.{◌≡◌, ◌≢◌, ℕ, ◌+◌, ◌-◌, ◌<◌, ◌≤◌, List, [], ◌∷◌, ◌++◌, length, flat_map, take, drop, refl, sym, ap, ◌∙◌, subst, inl, ⊎_elim, arith, append_assoc, append-nil, length-append}
use Rattle.std.proofs.Math.Nat.{add-sub_of_le}
use Rattle.std.proofs.lemmas.Bool.{cases_eq, cases_lt}
use Rattle.std.proofs.lemmas.List.{take_at, take-append-drop, length-take, length-take-le, map-append}
use Rattle.std.proofs.lemmas.List.Concat.{flat_map-append}
use Rattle.wf_model.specs.Lists.{IsIn, AllDiffer}
use Rattle.wf_model.specs.Grammar.{Grammar}
use Rattle.wf_model.proofs.Lists.{in_append_right}
use Rattle.label_model.specs.Files.{head_bytes, Entry, entry_bytes, names_of_entries, Answer, Accepted, Truncated, IsFront, ReadsFrom, at_end, cut, whole, Opens, short, head}
use Rattle.label_model.specs.FileLaws.{AreGood, offset_behind, IsCutPlace, in_head, behind, within, CutEntriesLaw}
use Rattle.label_model.proofs.Differing.{differ_parts}
use Rattle.label_model.proofs.FileReadings.{one_front, length-head}

module _ (g : Grammar) (all : List Entry) (good : AreGood g all) where
  -- the name of an entry is none of those before
  new_name : (before later : List Entry) (e : Entry) → all ≡ before ++ e ∷ later → IsIn e.name (names_of_entries before) → ⊥
  new_name before later e q h =
      let d = subst AllDiffer (ap names_of_entries q ∙ map-append (λ (e : Entry). e.name) before (e ∷ later)) good.differ in
      (differ_parts (names_of_entries before) (names_of_entries (e ∷ later)) d).2 e.name h (inl refl)

  -- what stands in the middle is one of the entries
  is_member : (before later : List Entry) (e : Entry) → all ≡ before ++ e ∷ later → IsIn e all
  is_member before later e q = subst (λ z. IsIn e z) (sym q) (in_append_right e before (e ∷ later) (inl refl))

  -- whole entries are read, and the reading goes on with what follows
  reads_on : (mid before later : List Entry) (offset : ℕ) (rest : List ℕ) (a : Answer) → all ≡ before ++ (mid ++ later) → ReadsFrom g (offset + length (flat_map entry_bytes mid)) (before ++ mid) rest a → ReadsFrom g offset before (flat_map entry_bytes mid ++ rest) a
  reads_on [] before later offset rest a q w =
      let z : offset + 0 ≡ offset = omega arith in
      subst (λ n. ReadsFrom g n before rest a) z (subst (λ l. ReadsFrom g (offset + 0) l rest a) (append-nil before) w)
  reads_on (e ∷ mid) before later offset rest a q w =
      let i = is_member before (mid ++ later) e q in
      let q' : all ≡ (before ++ e ∷ []) ++ (mid ++ later) = q ∙ sym (append_assoc before (e ∷ []) (mid ++ later)) in
      let n : offset + length (flat_map entry_bytes (e ∷ mid)) ≡ (offset + length (entry_bytes e)) + length (flat_map entry_bytes mid) = omega (arith, length-append (entry_bytes e) (flat_map entry_bytes mid)) in
      let w' : ReadsFrom g ((offset + length (entry_bytes e)) + length (flat_map entry_bytes mid)) ((before ++ e ∷ []) ++ mid) rest a =
      subst (λ l. ReadsFrom g ((offset + length (entry_bytes e)) + length (flat_map entry_bytes mid)) l rest a) (sym (append_assoc before (e ∷ []) mid)) (subst (λ k. ReadsFrom g k (before ++ e ∷ mid) rest a) n w) in
      whole {rest = flat_map entry_bytes mid ++ rest} e
      (record { room = good.room e i; is = append_assoc (entry_bytes e) (flat_map entry_bytes mid) rest }) (good.names e i) (new_name before (mid ++ later) e q) (good.labels e i)
      (reads_on mid (before ++ e ∷ []) later (offset + length (entry_bytes e)) rest a q' w')

-- a part of an entry from the front is no entry
no_part : (e : Entry) (piece more : List ℕ) → entry_bytes e ≡ piece ++ more → length piece < length (entry_bytes e) → (f : Entry) (rest : List ℕ) → IsFront f piece rest → ⊥
no_part e piece more q l f rest h =
    let w : entry_bytes e ++ [] ≡ entry_bytes f ++ (rest ++ more) = append-nil (entry_bytes e) ∙ (q ∙ (ap (λ z. z ++ more) h.is ∙ append_assoc (entry_bytes f) rest more)) in
    let r = one_front e f [] (rest ++ more) w in
    let a = ap length h.is in
    let b = length-append (entry_bytes f) rest in
    let c = ap (λ z. length (entry_bytes z)) r.0 in
    absurd (omega (arith, a, b, c, l))

-- an entry more moves the offset by its bytes
offset_more : (digest : List ℕ) (before : List Entry) (e : Entry) → offset_behind digest (before ++ e ∷ []) ≡ offset_behind digest before + length (entry_bytes e)
offset_more digest before e =
    let b = flat_map entry_bytes before in
    let q : head_bytes digest ++ flat_map entry_bytes (before ++ e ∷ []) ≡ (head_bytes digest ++ b) ++ (entry_bytes e ++ []) = ap (λ z. head_bytes digest ++ z) (flat_map-append entry_bytes before (e ∷ [])) ∙ sym (append_assoc (head_bytes digest) b (entry_bytes e ++ [])) in
    ap length (q ∙ ap (λ z. (head_bytes digest ++ b) ++ z) (append-nil (entry_bytes e))) ∙ length-append (head_bytes digest ++ b) (entry_bytes e)

module _ (digest : List ℕ) (all : List Entry) where
  -- a place so many bytes behind entries is behind some more of them, or within one
  place_from : (later before : List Entry) → all ≡ before ++ later → (k n : ℕ) → k ≡ offset_behind digest before + n → n ≤ length (flat_map entry_bytes later) → IsCutPlace digest all k
  place_from [] before q k n is few = behind before [] q (omega (arith, is, few))
  place_from (e ∷ later) before q k n is few =
      let x = entry_bytes e in
      ⊎_elim
      (λ (z : n ≡ 0). behind before (e ∷ later) q (omega (arith, is, z)))
      (λ nonzero. ⊎_elim
      (λ (l : n < length x). within before e later q n (omega (arith, nonzero)) l is)
      (λ (m : length x ≤ n).
      let p = n - length x in
      let d : length x + p ≡ n = add-sub_of_le m in
      place_from later (before ++ e ∷ []) (q ∙ sym (append_assoc before (e ∷ []) later)) k p
      (omega (arith, is, d, offset_more digest before e)) (omega (arith, d, few, length-append x (flat_map entry_bytes later))))
      (cases_lt n (length x)))
      (cases_eq n 0)

  -- each length is that of a place
  each_place : length digest ≡ 32 → (k : ℕ) → k ≤ length (head_bytes digest ++ flat_map entry_bytes all) → IsCutPlace digest all k
  each_place l k few =
      ⊎_elim
      (λ (z : k < 36). in_head z)
      (λ (m : 36 ≤ k).
      let h = length-head digest l in
      place_from all [] refl k (k - 36)
      (omega (arith, add-sub_of_le m, h, length-append (head_bytes digest) [])) (omega (arith, add-sub_of_le m, few, h, length-append (head_bytes digest) (flat_map entry_bytes all))))
      (cases_lt k 36)

pub cut_entries_law : CutEntriesLaw
cut_entries_law g digest l es good =
    let h = head_bytes digest in
    let hl = length-head digest l in
    record {
      places = each_place digest es l;
      head = λ digests k small. short (omega (arith, length-take k (h ++ flat_map entry_bytes es)));
      entries = λ digests here before later q.
          let b = flat_map entry_bytes before in
          let file : h ++ flat_map entry_bytes es ≡ (h ++ b) ++ flat_map entry_bytes later = ap (λ z. h ++ flat_map entry_bytes z) q ∙ (ap (λ z. h ++ z) (flat_map-append entry_bytes before later) ∙ sym (append_assoc h b (flat_map entry_bytes later))) in
          let t : take (length (h ++ b)) (h ++ flat_map entry_bytes es) ≡ h ++ b = ap (λ z. take (length (h ++ b)) z) file ∙ take_at (h ++ b) (flat_map entry_bytes later) (length (h ++ b)) refl in
          subst (λ z. Opens g digests z (Accepted before)) (sym t)
          (head digest b here l refl (subst (λ z. ReadsFrom g 36 [] z (Accepted before)) (append-nil b) (reads_on g es good before [] later 36 [] (Accepted before) q at_end)));
      within = λ digests here before e later q k some few.
          let b = flat_map entry_bytes before in
          let x = entry_bytes e in
          let piece = take k x in
          let pl : length piece ≡ k = length-take-le k x (omega arith) in
          let both : piece ++ drop k x ≡ x = take-append-drop k x in
          let file : h ++ flat_map entry_bytes es ≡ ((h ++ b) ++ piece) ++ (drop k x ++ flat_map entry_bytes later) =
          ap (λ z. h ++ flat_map entry_bytes z) q ∙ (ap (λ z. h ++ z) (flat_map-append entry_bytes before (e ∷ later)) ∙ (sym (append_assoc h b (x ++ flat_map entry_bytes later)) ∙
          (ap (λ z. (h ++ b) ++ (z ++ flat_map entry_bytes later)) (sym both) ∙ (ap (λ z. (h ++ b) ++ z) (append_assoc piece (drop k x) (flat_map entry_bytes later)) ∙ sym (append_assoc (h ++ b) piece (drop k x ++ flat_map entry_bytes later)))))) in
          let n : length ((h ++ b) ++ piece) ≡ length (h ++ b) + k = length-append (h ++ b) piece ∙ ap (λ z. length (h ++ b) + z) pl in
          let t : take (length (h ++ b) + k) (h ++ flat_map entry_bytes es) ≡ (h ++ b) ++ piece = ap (λ z. take (length (h ++ b) + k) z) file ∙ take_at ((h ++ b) ++ piece) (drop k x ++ flat_map entry_bytes later) (length (h ++ b) + k) n in
          let o : 36 + length b ≡ length (h ++ b) = omega (arith, length-append h b, hl) in
          let nonempty : piece ≢ [] = λ z. let y = ap length z in absurd (omega (arith, y, pl, some)) in
          let end : ReadsFrom g (36 + length b) ([] ++ before) piece (Truncated (length (h ++ b))) =
          subst (λ z. ReadsFrom g (36 + length b) before piece (Truncated z)) o (cut nonempty (no_part e piece (drop k x) (sym both) (omega (arith, pl, few)))) in
          let inside = reads_on g es good before [] (e ∷ later) 36 piece (Truncated (length (h ++ b))) q end in
          subst (λ z. Opens g digests z (Truncated (length (h ++ b)))) (sym (t ∙ append_assoc h b piece)) (head digest (b ++ piece) here l refl inside);
    }
