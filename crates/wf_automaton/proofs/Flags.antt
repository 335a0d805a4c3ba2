-- Flags of states that are set one by one.
use Rattle.std.proofs.Common.{◌≡◌, ◌↔◌, ℕ, ◌+◌, ◌<◌, ◌≤◌, ◌==◌, ◌||◌, Bool, true, false, List, [], ◌∷◌, ◌++◌, length, get_or, set, take, refl, sym, ap, subst, ◌∙◌}
use Rattle.std.proofs.Math.Bool.{or-true}
use Rattle.std.proofs.lemmas.Bool.{eqb-true, eqb-false, eq-eqb}
use Rattle.std.specs.Prelude.{IsTrue}
use Rattle.std.proofs.lemmas.List.{get_or-set_same, get_or-set_other, get_or_past, take_more}
use Rattle.wf_model.specs.Lists.{IsIn, some}
use Rattle.wf_model.proofs.Lists.{some_from, some_gives, is_at, at_is}
use Rattle.wf_model.proofs.Tests.{or_nothing, some_more}
use Rattle.wf_automaton.specs.Tables.{AreFlagsOf}

-- the flag of one state more
pub flags_more : (states : List ℕ) (flags : List Bool) (i x : ℕ) → AreFlagsOf (take i states) flags → x ≡ get_or states i x → i < length states → x < length flags
    → AreFlagsOf (take (i + 1) states) (set flags x true)
flags_more states flags i x known was inside below = λ s.
    by s (x == s) refl ∙ (sym (some_more (λ t. t == s) (take i states) x) ∙ ap (some (λ t. t == s)) (ap (λ y. take i states ++ y ∷ []) was ∙ sym (take_more states i x inside)))
  where
    -- the flag of x is set, and each other one stays
    by : (s : ℕ) (b : Bool) → (x == s) ≡ b → get_or (set flags x true) s false ≡ some (λ t. t == s) (take i states) || (x == s)
    by s true e =
        ap (λ n. get_or (set flags x true) n false) (sym (eqb-true x s e))
        ∙ (get_or-set_same flags x true false below ∙ (sym (or-true (some (λ t. t == s) (take i states))) ∙ ap (λ b. some (λ t. t == s) (take i states) || b) (sym e)))
    by s false e =
        get_or-set_other flags x s true false (λ d. eqb-false x s e (sym d)) ∙ (known s ∙ (or_nothing (some (λ t. t == s) (take i states)) ∙ ap (λ b. some (λ t. t == s) (take i states) || b) (sym e)))

-- so a state is in the list exactly if its flag is set
pub flag_tells : (states : List ℕ) (flags : List Bool) → AreFlagsOf states flags → (s : ℕ) → (get_or flags s false ≡ true) ↔ IsIn s states
flag_tells states flags known s = (
  λ h.
      let r = some_gives (λ t. t == s) states (sym (known s) ∙ h) in
      subst (λ t. IsIn t states) (eqb-true r.0 s r.2) r.1,
  λ h. known s ∙ some_from (λ t. t == s) s states h (eq-eqb s s refl),
)

-- as it is read
pub read_tells : (states : List ℕ) (flags : List Bool) → AreFlagsOf states flags → (s : ℕ) (b : Bool) → b ≡ get_or flags s b → s < length flags → IsTrue b ↔ IsIn s states
read_tells states flags known s b read inside =
    let e : b ≡ get_or flags s false = read ∙ sym (at_is (get_or flags s b) s flags false (is_at s flags b inside)) in
    let t = flag_tells states flags known s in (
      λ h. t.0 (sym e ∙ h),
      λ i. e ∙ t.1 i,
    )

-- past the flags there is no such state
pub past_tells : (states : List ℕ) (flags : List Bool) → AreFlagsOf states flags → (s : ℕ) (b : Bool) → b ≡ false → length flags ≤ s → IsTrue b ↔ IsIn s states
past_tells states flags known s b clear past =
    let e : b ≡ get_or flags s false = clear ∙ sym (get_or_past flags s false past) in
    let t = flag_tells states flags known s in (
      λ h. t.0 (sym e ∙ h),
      λ i. e ∙ t.1 i,
    )
