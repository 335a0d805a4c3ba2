-- Pairs of border modules, as rows of bits.
use Rattle.std.proofs.Common.{◌≡◌, ℕ, ◌+◌, ◌<◌, ◌≤◌, ◌⊎◌, ◌&&◌, Bool, true, false, not, List, length, get_or, Option, Some, None, refl, sym, ap, ◌∙◌, subst, inl, inr, ⊎_elim, arith, true≢false, MatchOption}
use Rattle.wf_model.specs.Grammar.{Grammar, Assignment, inputs_of, outputs_of}
use Rattle.wf_model.specs.WellFormed.{IsWellFormed}
use Rattle.wf_model.specs.View.{View, expands, shows}
use Rattle.wf_model.specs.Meaning.{pairs_of, bit_of}
use Rattle.bool_mat.specs.Matrix.{has}
use Rattle.bool_mat.proofs.Rows.{has_below, row_within}
use Rattle.wf_body.specs.Matrices.{HasRows}
use Rattle.wf_view.specs.Held.{HeldView, AreShownRows, IsHeldFor}
use Rattle.wf_safe.proofs.SeenBelow.{seen_below}
use Rattle.compare_model.specs.Coarser.{IsBorder}
use Rattle.compare_model.specs.Pairs.{ModulePair, IsBorderPair, IsDenied, IsAdded, IsFirst}
use Rattle.compare_model.proofs.FirstPairs.{pair}
use Rattle.wf_compare.specs.declared.rows.PortPair.{PortPair}
use Rattle.wf_compare.specs.declared.pairs.Difference.{Difference}
use Rattle.wf_compare.specs.declared.pairs.Difference.TheVariants.{Denied, Added}
use Rattle.wf_compare.specs.Flags.{is_border}
use Rattle.wf_compare.specs.Pairs.{IsMore, HasNoMore, IsFirstMore, Differs, HasNoneOf, IsFirstOf}

-- rows of bits have exactly the pairs that a test passes
pub record Stand (rows : List ℕ) (inputs outputs : ℕ) (test : ℕ → ℕ → Bool) : Type 0 where
  pub one_each : length rows ≡ inputs
  pub bits : (i o : ℕ) → i < inputs → o < outputs → has (get_or rows i 0) o ≡ test i o
  pub below : (i o : ℕ) → has (get_or rows i 0) o ≡ true → o < outputs

of_full : (full : List (Option (List ℕ))) (m : ℕ) (rows : List ℕ) → Some rows ≡ get_or full m None → (i o : ℕ) → has (get_or rows i 0) o ≡ pairs_of full m i o
unfolding has
of_full full m rows e i o = ap (λ r. bit_of r i o) e

of_shown : (g : Grammar) (c : View) (m : ℕ) (rows : List ℕ) → AreShownRows g c m rows → (i o : ℕ) → i < inputs_of g m → o < outputs_of g m → has (get_or rows i 0) o ≡ shows c m i o
unfolding has
of_shown g c m rows s i o a b = s.bits i o a b

same_rows : (a b : List ℕ) → Some a ≡ Some b → a ≡ b
same_rows a b e = cc

pub full_stand : (g : Grammar) (full : List (Option (List ℕ))) (m : ℕ) (rows : List ℕ) → HasRows g full m → Some rows ≡ get_or full m None → Stand rows (inputs_of g m) (outputs_of g m) (pairs_of full m)
full_stand g full m rows h e =
    let same : rows ≡ h.rows = same_rows rows h.rows (e ∙ h.held) in
    record {
      one_each = ap (λ (l : List ℕ). length l) same ∙ h.one_each;
      bits = λ i o a b. of_full full m rows e i o;
      below = λ i o t. has_below (get_or h.rows i 0) o (outputs_of g m) (row_within h.rows (outputs_of g m) i h.no_more) (ap (λ l. has (get_or l i 0) o) (sym same) ∙ t);
    }

pub shown_stand : (g : Grammar) (c : View) (m : ℕ) (rows : List ℕ) → AreShownRows g c m rows → Stand rows (inputs_of g m) (outputs_of g m) (shows c m)
shown_stand g c m rows s = record {
  one_each = s.one_each;
  bits = of_shown g c m rows s;
  below = λ i o t. has_below (get_or rows i 0) o (outputs_of g m) (row_within rows (outputs_of g m) i s.no_more) t;
}

-- the one test passes at a pair, and the other does not
record Passes (inputs outputs : ℕ) (one other : ℕ → ℕ → Bool) (i o : ℕ) : Type 0 where
  pub input : i < inputs
  pub output : o < outputs
  pub passed : one i o ≡ true
  pub refused : other i o ≡ false

module _ (inputs outputs : ℕ) (rows others : List ℕ) (one other : ℕ → ℕ → Bool) (a : Stand rows inputs outputs one) (b : Stand others inputs outputs other) where
  more_passes : (i o : ℕ) → IsMore rows others i o → Passes inputs outputs one other i o
  more_passes i o m =
      let input : i < inputs = subst (λ n. i < n) a.one_each m.there in
      let output = a.below i o m.in_one in
      record { input = input; output = output; passed = sym (a.bits i o input output) ∙ m.in_one; refused = sym (b.bits i o input output) ∙ m.in_other }

  passes_more : (i o : ℕ) → Passes inputs outputs one other i o → IsMore rows others i o
  passes_more i o p = record {
    there = subst (λ n. i < n) (sym a.one_each) p.input;
    in_one = a.bits i o p.input p.output ∙ p.passed;
    in_other = b.bits i o p.input p.output ∙ p.refused;
  }

module _ (g : Grammar) (c : View) (d : Assignment) (m : ℕ) (border : IsBorder g c m) (fine shown : List ℕ)
    (a : Stand fine (inputs_of g m) (outputs_of g m) (d m)) (b : Stand shown (inputs_of g m) (outputs_of g m) (shows c m)) where
  denied_is : (i o : ℕ) → IsMore fine shown i o → IsDenied g c d (pair m i o)
  denied_is i o h =
      let p = more_passes (inputs_of g m) (outputs_of g m) fine shown (d m) (shows c m) a b i o h in
      record { pair = record { border = border; input_there = p.input; output_there = p.output }; fine = p.passed; coarse = p.refused }

  is_denied : (i o : ℕ) → IsDenied g c d (pair m i o) → IsMore fine shown i o
  is_denied i o x = passes_more (inputs_of g m) (outputs_of g m) fine shown (d m) (shows c m) a b i o
      (record { input = x.pair.input_there; output = x.pair.output_there; passed = x.fine; refused = x.coarse })

  added_is : (i o : ℕ) → IsMore shown fine i o → IsAdded g c d (pair m i o)
  added_is i o h =
      let p = more_passes (inputs_of g m) (outputs_of g m) shown fine (shows c m) (d m) b a i o h in
      record { pair = record { border = border; input_there = p.input; output_there = p.output }; fine = p.refused; coarse = p.passed }

  is_added : (i o : ℕ) → IsAdded g c d (pair m i o) → IsMore shown fine i o
  is_added i o x = passes_more (inputs_of g m) (outputs_of g m) shown fine (shows c m) (d m) b a i o
      (record { input = x.pair.input_there; output = x.pair.output_there; passed = x.coarse; refused = x.fine })

  pub none_denied : HasNoMore fine shown → HasNoneOf (IsDenied g c d) m
  none_denied none i o x = none i o (is_denied i o x)

  pub first_denied : (i o : ℕ) → IsFirstMore fine shown i o → IsFirstOf (IsDenied g c d) m i o
  first_denied i o f = record { holds = denied_is i o f.more; first = λ j p x. f.first j p (is_denied j p x) }

  pub none_added : HasNoMore shown fine → HasNoneOf (IsAdded g c d) m
  none_added none i o x = none i o (is_added i o x)

  pub first_added : (i o : ℕ) → IsFirstMore shown fine i o → IsFirstOf (IsAdded g c d) m i o
  first_added i o f = record { holds = added_is i o f.more; first = λ j p x. f.first j p (is_added j p x) }

-- a pair at which the coarse view differs is one of a border module
differs_pair : (way : Difference) (g : Grammar) (c : View) (d : Assignment) (x : ModulePair) → Differs way g c d x → IsBorderPair g c x
differs_pair Denied g c d x h = h.pair
differs_pair Added g c d x h = h.pair

-- the flags of a border module
border_flags : (g : Grammar) (v : HeldView) (m : ℕ) → IsHeldFor g v → m < length g.modules → IsBorder g v.core m → is_border v m ≡ true
border_flags g v m h l b = ap (λ s. s && not (expands v.core m)) ((h.seen m l).1 b.0) ∙ ap not b.1

pub border_from : (g : Grammar) (v : HeldView) (m : ℕ) → IsHeldFor g v → m < length g.modules → is_border v m ≡ true → IsBorder g v.core m
border_from g v m h l t = go (get_or v.seen m false) (expands v.core m) refl refl t
  where
    go : (s e : Bool) → get_or v.seen m false ≡ s → expands v.core m ≡ e → s && not e ≡ true → IsBorder g v.core m
    go true true p q r = absurd (true≢false (sym r))
    go true false p q r = ((h.seen m l).0 p, q)
    go false e p q r = absurd (true≢false (sym r))

pub not_border : (way : Difference) (g : Grammar) (v : HeldView) (d : Assignment) (m : ℕ) → IsHeldFor g v → m < length g.modules → is_border v m ≡ false → HasNoneOf (Differs way g v.core d) m
not_border way g v d m h l f i o x = true≢false (sym (border_flags g v m h l (differs_pair way g v.core d (pair m i o) x).border) ∙ f)

-- modules without such a pair, and the next
module _ (Holds : ModulePair → Type 0) where
  pub module_passed : (k : ℕ) → ((m : ℕ) → m < k → HasNoneOf Holds m) → HasNoneOf Holds k → (m : ℕ) → m < k + 1 → HasNoneOf Holds m
  module_passed k before this m l = ⊎_elim (λ (h : m < k). before m h) (λ (h : m ≡ k). subst (HasNoneOf Holds) (sym h) this) cases
    where
      cases : (m < k) ⊎ (m ≡ k)
      cases = grind arith

  pub module_first : (k i o : ℕ) → ((m : ℕ) → m < k → HasNoneOf Holds m) → IsFirstOf Holds k i o → IsFirst Holds (pair k i o)
  module_first k i o before f = (
    f.holds,
    λ y h. ⊎_elim
        (λ (l : y.module_no < k). absurd (before y.module_no l y.input y.output h))
        (λ q. ⊎_elim
        (λ (e : y.module_no ≡ k). inr (sym e, f.first y.input y.output (subst (λ z. Holds (pair z y.input y.output)) e h)))
        (λ (l : k < y.module_no). inl l)
        q)
        (cases y.module_no),
  )
    where
      cases : (m : ℕ) → (m < k) ⊎ ((m ≡ k) ⊎ (k < m))
      cases m = grind arith

pub none_differs : (way : Difference) (g : Grammar) (c : View) (d : Assignment) (n : ℕ) → IsWellFormed g → length g.modules ≤ n → ((m : ℕ) → m < n → HasNoneOf (Differs way g c d) m) → (x : ModulePair) → Differs way g c d x → ⊥
none_differs way g c d n formed all none x h =
    let l = seen_below g c x.module_no formed (differs_pair way g c d x h).border.0 in
    none x.module_no (omega arith) x.input x.output h

-- what the rows of a border module tell is so of the module
module _ (g : Grammar) (c : View) (d : Assignment) (m : ℕ) (border : IsBorder g c m) (fine shown : List ℕ)
    (a : Stand fine (inputs_of g m) (outputs_of g m) (d m)) (b : Stand shown (inputs_of g m) (outputs_of g m) (shows c m)) where
  pub denied_told : (way : Difference) → way ≡ Denied → (o : Option PortPair) → MatchOption o (HasNoMore fine shown) (λ x. IsFirstMore fine shown x.input.0 x.output.0)
      → MatchOption o (HasNoneOf (Differs way g c d) m) (λ x. IsFirstOf (Differs way g c d) m x.input.0 x.output.0)
  denied_told way e None h = subst (λ w. HasNoneOf (Differs w g c d) m) (sym e) (none_denied g c d m border fine shown a b h)
  denied_told way e (Some x) h = subst (λ w. IsFirstOf (Differs w g c d) m x.input.0 x.output.0) (sym e) (first_denied g c d m border fine shown a b x.input.0 x.output.0 h)

  pub added_told : (way : Difference) → way ≡ Added → (o : Option PortPair) → MatchOption o (HasNoMore shown fine) (λ x. IsFirstMore shown fine x.input.0 x.output.0)
      → MatchOption o (HasNoneOf (Differs way g c d) m) (λ x. IsFirstOf (Differs way g c d) m x.input.0 x.output.0)
  added_told way e None h = subst (λ w. HasNoneOf (Differs w g c d) m) (sym e) (none_added g c d m border fine shown a b h)
  added_told way e (Some x) h = subst (λ w. IsFirstOf (Differs w g c d) m x.input.0 x.output.0) (sym e) (first_added g c d m border fine shown a b x.input.0 x.output.0 h)
