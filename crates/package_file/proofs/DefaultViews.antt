-- Two default views of one grammar expand the same modules and show the same pairs, so both are safe where one is.
use Rattle.std.proofs.Common.{◌≡◌, ◌↔◌, ℕ, ◌<◌, Bool, true, false, length, Result, Ok, Err, sym, ◌∙◌, true≢false}
use Rattle.std.specs.Prelude.{IsTrue, IfOk}
use Rattle.std.specs.Cmp.Derive.{one_truth}
use Rattle.wf_model.specs.Grammar.{Grammar, Assignment, inputs_of, outputs_of, head_of, IsAtomic}
use Rattle.wf_model.specs.WellFormed.{IsWellFormed}
use Rattle.wf_model.specs.Proper.{IsProper}
use Rattle.wf_model.specs.View.{View, expands, shows, IsSeenModule, at_start, in_body, IsDefaultView}
use Rattle.wf_model.specs.DefaultView.{default_view}
use Rattle.wf_model.specs.Finishing.{ExpandsComposites}
use Rattle.wf_model.proofs.DefaultView.{default_is_default}
use Rattle.wf_model.specs.Safe.{IsSafe, IsInduced}
use Rattle.wf_laws.proofs.Full.{full_law, safe_full_law}
use Rattle.wf_laws.proofs.Safe.{one_test_suffices}
use Rattle.wf_safe.proofs.SeenBelow.{seen_below}
use Rattle.package_file.specs.Packed.{IsSafeByDefault}

pub default_composites : (g : Grammar) (u : View) → IsDefaultView g u → ExpandsComposites g u
default_composites g u default m t = (default.expanded m).0 t

-- a module that a default view does not expand is atomic
shut_atomic : (g : Grammar) (u : View) → IsDefaultView g u → (m : ℕ) → expands u m ≡ false → IsAtomic g m
shut_atomic g u default m shut p h e = true≢false (sym ((default.expanded m).1 (p, (h, e))) ∙ shut)

module _ (g : Grammar) (u w : View) (one : IsDefaultView g u) (other : IsDefaultView g w) where
  pub same_expands : (m : ℕ) → expands u m ≡ expands w m
  same_expands m = one_truth (expands u m) (expands w m) (λ t. (other.expanded m).1 ((one.expanded m).0 t)) (λ t. (one.expanded m).1 ((other.expanded m).0 t))

  same_shows : (m : ℕ) → m < length g.modules → expands u m ≡ false → (i o : ℕ) → i < inputs_of g m → o < outputs_of g m → shows w m i o ≡ shows u m i o
  same_shows m h shut i o hi ho =
      let atomic = shut_atomic g u one m shut in
      (other.shown m h (sym (same_expands m) ∙ shut)).atomic atomic i o hi ho ∙ sym ((one.shown m h shut).atomic atomic i o hi ho)

  -- what is seen under the other is seen under the one
  seen_back : {m : ℕ} → IsSeenModule g w m → IsSeenModule g u m
  seen_back (at_start e) = at_start e
  seen_back (in_body p l s t i) = in_body p l (seen_back s) (same_expands (head_of g p) ∙ t) i

  pub induced_too : IsWellFormed g → (d : Assignment) → IsInduced g u d → IsInduced g w d
  induced_too formed d h = record {
    shown = λ m s shut i o hi ho.
        let closed = same_expands m ∙ shut in
        h.shown m (seen_back s) closed i o hi ho ∙ sym (same_shows m (seen_below g w m formed s) closed i o hi ho);
    induced = λ p l s t i o hi ho. h.induced p l (seen_back s) (same_expands (head_of g p) ∙ t) i o hi ho;
  }

  pub safe_too : IsWellFormed g → IsProper g → IsSafe g u → IsSafe g w
  safe_too formed proper safe m s a b xa xb i o hi ho joins =
      let composites = default_composites g u one in
      let full = safe_full_law g u formed proper composites safe in
      let induced = induced_too formed full.0 ((full_law g u full.0 formed proper composites).0 full.1) in
      let here = one_test_suffices g w full.0 formed induced m s in
      (here b xb i o hi ho).0 ((here a xa i o hi ho).1 joins)

-- the default view is safe exactly if a default view is
by_default : (g : Grammar) (u : View) → IsWellFormed g → IsProper g → IsDefaultView g u → (b : Bool) → (IsTrue b ↔ IsSafe g u) → IsTrue b ↔ IsSafeByDefault g
by_default g u formed proper default b h = (
  λ t. safe_too g u (default_view g) default (default_is_default g) formed proper (h.0 t),
  λ s. h.1 (safe_too g (default_view g) u (default_is_default g) default formed proper s),
)

pub default_told : {E : Type 0} (g : Grammar) (u : View) (r : Result Bool E) → IsWellFormed g → IsProper g → IsDefaultView g u → IfOk r (λ b. IsTrue b ↔ IsSafe g u) → IfOk r (λ b. IsTrue b ↔ IsSafeByDefault g)
default_told g u (Ok b) formed proper default h = by_default g u formed proper default b h
default_told g u (Err e) formed proper default h = tt

-- a default view is safe where the default view is
pub default_is_safe : (g : Grammar) (u : View) → IsWellFormed g → IsProper g → IsDefaultView g u → IsSafeByDefault g → IsSafe g u
default_is_safe g u formed proper default s = safe_too g (default_view g) u (default_is_default g) default formed proper s
