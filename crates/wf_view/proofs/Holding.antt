-- Rows that are kept in a table fit the grammar, and their view is the one that the parts describe.
use Rattle.std.proofs.Common.{◌≡◌, ℕ, zero, suc, ◌+◌, ◌*◌, ◌-◌, ◌/◌, ◌%◌, ◌<◌, ◌≤◌, ◌^◌, ◌==◌, Bool, true, false, cond, List, Vec, [], ◌∷◌, ◌++◌, map, length, get_or, flat_map, refl, sym, ap, ◌∙◌, subst, arith}
use Rattle.std.specs.Int.{bit_at}
use Rattle.std.specs.List.{filter}
use Rattle.std.specs.declared.alloc.Global.{Global}
use Rattle.std.proofs.Math.Nat.{mod-lt}
use Rattle.std.proofs.lemmas.List.{length-map}
use Rattle.std.proofs.lemmas.List.Elements.{All-from_get_or}
use Rattle.std.proofs.lemmas.Nat.{div-add-mod', pow_pos}
use Rattle.std.proofs.lemmas.Nat.Bits.{bit_at-zero, bit_at_cat_high, same_from_bits}
use Rattle.std.proofs.lemmas.Simd.{map-map}
use Rattle.wf_model.specs.declared.parts.ViewParts.{ViewParts}
use Rattle.wf_model.specs.Lists.{IsAt, numbers_from}
use Rattle.wf_model.specs.Grammar.{Grammar, inputs_of, outputs_of}
use Rattle.wf_model.specs.View.{View}
use Rattle.wf_model.specs.WellFormed.{IsWellFormed}
use Rattle.wf_model.proofs.Composites.{composite_gives}
use Rattle.wf_model.proofs.Lists.{filter_same, at_below}
use Rattle.wf_spec.proofs.Finding.{number_below}
use Rattle.wf_view.specs.FitRows.{FitGrammar}
use Rattle.wf_view.specs.Held.{flagged, pairs_in, view_of_rows}
use Rattle.wf_view.specs.Marks.{AreMarks}
use Rattle.wf_view.specs.Rules.{number_in, IsViewed}
use Rattle.wf_view.specs.Tables.{AreRowsBy, IsKept, AreKept, AreSound}
use Rattle.wf_view.specs.Viewing.{is_expanded, is_shown, pairs_by, shown_pairs, view_of}
use Rattle.wf_view.proofs.Described.{expanded_composite, known_parts, on_shown, known_pairs}
use Rattle.wf_view.proofs.Naming.{module_formed}
use Rattle.wf_view.proofs.Places.{map_places, get_mapped}
use Rattle.wf_view.proofs.Viewed.{below_all}
use Rattle.wf_model.proofs.Positions.{at_there}
use Rattle.wf_model.proofs.Mapping.{flat_map_same}

-- numbers of which a function makes nothing add nothing
nothing_made : {A : Type 0} (f : ℕ → List A) (k n : ℕ) → ((j : ℕ) → k ≤ j → f j ≡ []) → flat_map f (numbers_from k n) ≡ []
nothing_made f k zero none = refl
nothing_made f k (suc n) none = ap (λ l. l ++ flat_map f (numbers_from (suc k) n)) (none k (omega arith)) ∙ nothing_made f (suc k) n (λ j h. none j (omega arith))

nothing_more : {A : Type 0} (f : ℕ → List A) (k n m : ℕ) → n ≤ m → ((j : ℕ) → k + n ≤ j → f j ≡ []) → flat_map f (numbers_from k m) ≡ flat_map f (numbers_from k n)
nothing_more f k zero m few none = nothing_made f k m (λ j h. none j (omega arith))
nothing_more f k (suc n) zero few none = absurd (omega arith)
nothing_more f k (suc n) (suc m) few none = ap (λ l. f k ++ l) (nothing_more f (suc k) n m (omega arith) (λ j h. none j (omega arith)))

-- the pairs whose bits are set are those that pass the test
pairs_same : (g : Grammar) (m : ℕ) (test : ℕ → ℕ → Bool) (rows : List ℕ) → outputs_of g m ≤ 64 → AreRowsBy (inputs_of g m) (outputs_of g m) test rows → pairs_in rows ≡ pairs_by g m test
pairs_same g m test rows few by =
    ap (λ k. flat_map (λ i. flat_map (set_bit i) (numbers_from 0 64)) (numbers_from 0 k)) by.one_each
    ∙ flat_map_same (λ i. flat_map (set_bit i) (numbers_from 0 64)) (λ i. flat_map (λ o. cond (test i o) ((i, o) ∷ []) []) (numbers_from 0 (outputs_of g m))) (numbers_from 0 (inputs_of g m))
    (λ i hi. nothing_more (set_bit i) 0 (outputs_of g m) 64 few (λ o past. ap (λ b. cond (b == 1) ((i, o) ∷ []) []) (by.no_more i o (omega arith)))
    ∙ flat_map_same (set_bit i) (λ o. cond (test i o) ((i, o) ∷ []) []) (numbers_from 0 (outputs_of g m))
    (λ o ho. ap (λ b. cond b ((i, o) ∷ []) []) (by.bits i o (below_all i (inputs_of g m) hi) (below_all o (outputs_of g m) ho))))
  where
    set_bit : ℕ → ℕ → List (ℕ × ℕ)
    set_bit i o = cond (bit_at (get_or rows i 0) o == 1) ((i, o) ∷ []) []

-- what is kept of a module are the pairs that the parts show of it
kept_pairs : (g : Grammar) (parts : ViewParts) (m : ℕ) (list : List ℕ) (expanded : Bool) → outputs_of g m ≤ 64 → expanded ≡ is_expanded g parts m → IsKept g expanded (is_shown g parts.deps m) m list → pairs_in list ≡ shown_pairs g parts m
kept_pairs g parts m list expanded few is k = by expanded refl
  where
    by : (b : Bool) → expanded ≡ b → pairs_in list ≡ shown_pairs g parts m
    by true e = ap pairs_in (k.none e) ∙ sym (ap (λ b. cond b [] (pairs_by g m (is_shown g parts.deps m))) (sym is ∙ e))
    by false e = pairs_same g m (is_shown g parts.deps m) list few (k.rows e) ∙ sym (ap (λ b. cond b [] (pairs_by g m (is_shown g parts.deps m))) (sym is ∙ e))

-- a number without bits from n on is below 2 ^ n
pub bits_below : (r n : ℕ) → ((o : ℕ) → n ≤ o → bit_at r o ≡ 0) → r < 2 ^ n
bits_below r n none =
    let rest = mod-lt r (pow_pos n) in
    let whole = div-add-mod' r (2 ^ n) in
    let nothing : r / 2 ^ n ≡ 0 = same_from_bits (r / 2 ^ n) 0 (λ i.
    ap (bit_at (r / 2 ^ n)) (let e : i ≡ i + n - n = omega arith in e)
    ∙ (sym (bit_at_cat_high (r / 2 ^ n) n (r % 2 ^ n) (i + n) rest (omega arith)) ∙ (ap (λ k. bit_at k (i + n)) whole ∙ (none (i + n) (omega arith) ∙ sym (bit_at-zero i))))) in
    subst (λ k. k < 2 ^ n) (sym (ap (λ k. k * 2 ^ n + r % 2 ^ n) nothing ∙ (let e : 0 * 2 ^ n + r % 2 ^ n ≡ r % 2 ^ n = omega arith in e)) ∙ whole) rest

module _ (g : Grammar) (parts : ViewParts) (marks : List Bool) (table : List (Vec ℕ Global)) (are : AreMarks g parts marks) (kept : AreKept g marks parts.deps (length g.modules) table) (formed : IsWellFormed g) where
  expanded_is : flagged marks ≡ (view_of g parts).expanded
  expanded_is =
      ap (λ n. filter (λ m. get_or marks m false) (numbers_from 0 n)) are.one_each
      ∙ filter_same (λ m. get_or marks m false) (is_expanded g parts) (numbers_from 0 (length g.modules)) (λ m h. are.each m (below_all m (length g.modules) h))

  shown_is : map pairs_in (map (λ (s : Vec ℕ Global). s.items) table) ≡ (view_of g parts).shown
  shown_is =
      map-map pairs_in (λ (s : Vec ℕ Global). s.items) table
      ∙ map_places (λ (s : Vec ℕ Global). pairs_in s.items) (shown_pairs g parts) table 0 each
      ∙ ap (λ n. map (shown_pairs g parts) (numbers_from 0 n)) kept.one_each
    where
      each : (j : ℕ) (s : Vec ℕ Global) → IsAt s j table → pairs_in s.items ≡ shown_pairs g parts (0 + j)
      each j s at =
          let below : j < length g.modules = subst (λ n. j < n) kept.one_each (at_below s j table at) in
          kept_pairs g parts j s.items (get_or marks j false) (module_formed g formed j below).few_outputs (are.each j below) (kept.each j s at) ∙ ap (shown_pairs g parts) (let e : j ≡ 0 + j = omega arith in e)

  -- the flags and rows are those of the view that the parts describe
  pub core_is : view_of_rows marks (map (λ (s : Vec ℕ Global). s.items) table) ≡ view_of g parts
  core_is =
      ap (λ e. let u : View = record { expanded = e; shown = map pairs_in (map (λ (s : Vec ℕ Global). s.items) table) } in u) expanded_is
      ∙ ap (λ l. let u : View = record { expanded = (view_of g parts).expanded; shown = l } in u) shown_is

  -- what is kept of a module
  kept_at : (m : ℕ) → m < length g.modules → IsKept g (get_or marks m false) (is_shown g parts.deps m) m (get_or (map (λ (s : Vec ℕ Global). s.items) table) m [])
  kept_at m below =
      let there = at_there m table (subst (λ n. m < n) (sym kept.one_each) below) in
      subst (IsKept g (get_or marks m false) (is_shown g parts.deps m) m) (sym (get_mapped (λ (s : Vec ℕ Global). s.items) there.0 m table [] there.1)) (kept.each m there.0 there.1)

  -- and they fit the grammar
  pub kept_fit : IsViewed g parts → FitGrammar g marks (map (λ (s : Vec ℕ Global). s.items) table)
  kept_fit viewed = record {
    one_flag_each = are.one_each;
    one_list_each = length-map table (λ (s : Vec ℕ Global). s.items) ∙ kept.one_each;
    each = λ m below. (let k = kept_at m below in record {
      composite = λ h. composite_gives g m (expanded_composite g parts formed viewed m below (sym (are.each m below) ∙ h));
      none = k.none;
      one_row_each = λ closed. (k.rows closed).one_each;
      no_more = λ closed. All-from_get_or (λ r. r < 2 ^ outputs_of g m) (get_or (map (λ (s : Vec ℕ Global). s.items) table) m []) 0
          (λ i h. bits_below (get_or (get_or (map (λ (s : Vec ℕ Global). s.items) table) m []) i 0) (outputs_of g m) ((k.rows closed).no_more i));
    });
  }

-- deps parts that keep the rules are sound
pub parts_sound : (g : Grammar) (parts : ViewParts) (marks : List Bool) → IsWellFormed g → IsViewed g parts → AreMarks g parts marks → AreSound g marks parts.deps
parts_sound g parts marks formed viewed are = record {
  known = known_parts g parts formed viewed;
  not_expanded = λ d i. are.each (number_in g d.«module») (number_below g.modules d.«module» (known_parts g parts formed viewed d i)) ∙ on_shown g parts formed viewed d i;
  pairs = known_pairs g parts formed viewed;
  differ = viewed.1.1.1.1.1.1.0;
}
