-- The view of rows that fit a grammar: it is one of the grammar, and expands and shows what the flags and bits say.
use Rattle.std.proofs.Common.{◌≡◌, ℕ, ◌<◌, ◌≤◌, ◌^◌, ◌==◌, Bool, true, false, nat_lt, List, [], length, get_or, refl, sym, ap, ◌∙◌, subst, arith, true≢false}
use Rattle.std.specs.Int.{bit_at}
use Rattle.std.proofs.Math.ListN.{get_or-map}
use Rattle.std.proofs.lemmas.Bool.{ltb-true, ltb-false}
use Rattle.std.proofs.lemmas.List.{get_or_past}
use Rattle.std.proofs.lemmas.List.Elements.{All-get_or}
use Rattle.std.proofs.lemmas.Nat.Bits.{bit_at-zero, bit_at_above}
use Rattle.std.specs.Cmp.Derive.{one_truth}
use Rattle.wf_model.specs.Lists.{some}
use Rattle.wf_model.specs.Grammar.{Grammar, inputs_of, outputs_of}
use Rattle.wf_model.specs.View.{expands, shows, IsViewOf}
use Rattle.wf_model.specs.WellFormed.{IsWellFormed}
use Rattle.wf_model.proofs.Tests.{marked_below}
use Rattle.wf_view.specs.FitRows.{FitGrammar, IsViewOfRows}
use Rattle.wf_view.specs.Held.{AreShownRows, IsHeldFor, held_by, pairs_in, view_of_rows}
use Rattle.wf_view.specs.Tables.{AreSeen}
use Rattle.wf_view.proofs.Flagged.{flagged_is}
use Rattle.wf_view.proofs.Naming.{module_formed}
use Rattle.wf_view.proofs.Viewed.{is_it, in_passing, passing_from}

module _ (g : Grammar) (formed : IsWellFormed g) (flags : List Bool) (rows : List (List ℕ)) (fit : FitGrammar g flags rows) where
  -- the bit of a pair is set
  abbrev is_set : ℕ → ℕ → ℕ → Bool
  is_set m i o = bit_at (get_or (get_or rows m []) i 0) o == 1

  not_set : (m i o : ℕ) → bit_at (get_or (get_or rows m []) i 0) o ≡ 0 → ¬ (is_set m i o ≡ true)
  not_set m i o none h = true≢false (sym h ∙ ap (λ k. k == 1) none)

  no_rows : (m i o : ℕ) → get_or rows m [] ≡ [] → ¬ (is_set m i o ≡ true)
  no_rows m i o none = not_set m i o (ap (λ (l : List ℕ). bit_at (get_or l i 0) o) none ∙ bit_at-zero o)

  -- the pairs whose bits are set are of modules, their inputs and their outputs
  in_module : (m i o : ℕ) → is_set m i o ≡ true → m < length g.modules
  in_module m i o h = by (nat_lt m (length g.modules)) refl
    where
      by : (b : Bool) → nat_lt m (length g.modules) ≡ b → m < length g.modules
      by true e = ltb-true m (length g.modules) e
      by false e = absurd (no_rows m i o (get_or_past rows m [] (subst (λ n. n ≤ m) (sym fit.one_list_each) (ltb-false m (length g.modules) e))) h)

  not_flagged : (m i o : ℕ) → is_set m i o ≡ true → get_or flags m false ≡ false
  not_flagged m i o h = by (get_or flags m false) refl
    where
      by : (b : Bool) → get_or flags m false ≡ b → get_or flags m false ≡ false
      by true e = absurd (no_rows m i o ((fit.each m (in_module m i o h)).none e) h)
      by false e = e

  in_rows : (m i o : ℕ) → is_set m i o ≡ true → i < length (get_or rows m [])
  in_rows m i o h = by (nat_lt i (length (get_or rows m []))) refl
    where
      by : (b : Bool) → nat_lt i (length (get_or rows m [])) ≡ b → i < length (get_or rows m [])
      by true e = ltb-true i (length (get_or rows m [])) e
      by false e =
          absurd (not_set m i o (ap (λ r. bit_at r o) (get_or_past (get_or rows m []) i 0 (ltb-false i (length (get_or rows m [])) e)) ∙ bit_at-zero o) h)

  of_input : (m i o : ℕ) → is_set m i o ≡ true → i < inputs_of g m
  of_input m i o h = subst (λ n. i < n) ((fit.each m (in_module m i o h)).one_row_each (not_flagged m i o h)) (in_rows m i o h)

  of_output : (m i o : ℕ) → is_set m i o ≡ true → o < outputs_of g m
  of_output m i o h = by (nat_lt o (outputs_of g m)) refl
    where
      by : (b : Bool) → nat_lt o (outputs_of g m) ≡ b → o < outputs_of g m
      by true e = ltb-true o (outputs_of g m) e
      by false e =
          let small = All-get_or (λ r. r < 2 ^ outputs_of g m) (get_or rows m []) i 0 (in_rows m i o h) ((fit.each m (in_module m i o h)).no_more (not_flagged m i o h)) in
          absurd (not_set m i o (bit_at_above (get_or (get_or rows m []) i 0) (outputs_of g m) o small (ltb-false o (outputs_of g m) e)) h)

  -- a pair is shown exactly if its bit is set
  shown_as : (m i o : ℕ) → shows (view_of_rows flags rows) m i o ≡ some (is_it i o) (pairs_in (get_or rows m []))
  shown_as m i o = ap (some (is_it i o)) (get_or-map pairs_in rows m [])

  shown_is : (m i o : ℕ) → shows (view_of_rows flags rows) m i o ≡ is_set m i o
  shown_is m i o = one_truth (shows (view_of_rows flags rows) m i o) (is_set m i o) there back
    where
      there : shows (view_of_rows flags rows) m i o ≡ true → is_set m i o ≡ true
      there h = (in_passing (length (get_or rows m [])) 64 (is_set m) i o (sym (shown_as m i o) ∙ h)).1.1

      back : is_set m i o ≡ true → shows (view_of_rows flags rows) m i o ≡ true
      back h =
          let few = (module_formed g formed m (in_module m i o h)).few_outputs in
          let below = of_output m i o h in
          shown_as m i o ∙ passing_from (length (get_or rows m [])) 64 (is_set m) i o (in_rows m i o h) (omega arith) h

  pub in_words : IsViewOfRows flags rows (view_of_rows flags rows)
  in_words = record { expanded = flagged_is flags; shown = shown_is }

  is_view : IsViewOf g (view_of_rows flags rows)
  is_view = record {
    expanded = λ m h. (let set = sym (flagged_is flags m) ∙ h in (fit.each m (subst (λ n. m < n) fit.one_flag_each (marked_below flags m set))).composite set);
    shown = λ m i o h. (let set = sym (shown_is m i o) ∙ h in (in_module m i o set, of_input m i o set, of_output m i o set));
  }

  rows_are : (m : ℕ) → m < length g.modules → expands (view_of_rows flags rows) m ≡ false → AreShownRows g (view_of_rows flags rows) m (get_or rows m [])
  rows_are m below shut =
      let closed : get_or flags m false ≡ false = sym (flagged_is flags m) ∙ shut in
      record {
        one_each = (fit.each m below).one_row_each closed;
        bits = λ i o hi ho. sym (shown_is m i o);
        no_more = (fit.each m below).no_more closed;
      }

  -- so with flags of the seen modules it is held for the grammar
  pub held_is : (seen : List Bool) → length seen ≡ length g.modules → AreSeen g flags seen → IsHeldFor g (held_by flags seen rows)
  held_is seen count all = record {
    is_view = is_view;
    one_flag_each = count;
    seen = λ m below. all (view_of_rows flags rows) (flagged_is flags) m;
    rows_each = fit.one_list_each;
    rows = rows_are;
  }
