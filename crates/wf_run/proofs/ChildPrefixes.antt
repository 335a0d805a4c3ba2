-- The prefix of a child, by what is told of its module and of the step that leads to it.
use Rattle.std.proofs.Common.{◌≡◌, ℕ, ◌<◌, ◌+◌, ◌++◌, ◌∙◌, Bool, true, false, cond, List, length, get_or, Option, None, sym, ap}
use Rattle.std.specs.Prelude.{option_map}
use Rattle.wf_model.specs.Grammar.{Grammar, head_of, alternative_of}
use Rattle.wf_model.specs.WellFormed.{IsWellFormed}
use Rattle.wf_model.specs.Reach.{Step, target_of}
use Rattle.wf_model.specs.Linear.{IsLinear}
use Rattle.label_model.specs.Continuing.{continues, is_step}
use Rattle.label_model.specs.Labels.{step_bits}
use Rattle.label_model.specs.Places.{chain_at, chain_by}
use Rattle.wf_recur.specs.Cycles.{CyclesSeen, OnSeen, AreCyclesOf}
use Rattle.wf_recur.proofs.Places.{step_told}
use Rattle.wf_run.specs.Runs.{Prefix}
use Rattle.wf_run.specs.Opening.{prefix_by, child_prefix}
use Rattle.wf_run.proofs.Roots.{bare}
use Rattle.wf_model.specs.Composite.{is_composite}

abbrev goes_on : Prefix → Prefix
goes_on parent = record { bits = parent.bits; chain = option_map (λ c. c + 1) parent.chain }

abbrev leaves : Grammar → Step → Prefix → Prefix
leaves g s parent = record { bits = parent.bits ++ step_bits (record { chain = parent.chain; alternative = alternative_of g s.production; position = s.position }); chain = chain_at g (target_of g s) 0 }

-- the continuing step of a module that the table tells
abbrev told : CyclesSeen → ℕ → Option Step
told c m = option_map (λ (o : OnSeen). o.step) (get_or c.on m None)

pub child_atomic : (g : Grammar) (s : Step) (parent : Prefix) (m : ℕ) (t : Bool) → m ≡ target_of g s → t ≡ is_composite g m → t ≡ false → bare ≡ child_prefix g s parent
child_atomic g s parent m t same test e = sym (ap (λ t. cond {A = Prefix} t (prefix_by g s parent) bare) (ap (is_composite g) (sym same) ∙ (sym test ∙ e)))

module _ (g : Grammar) (c : CyclesSeen) (s : Step) (parent : Prefix) (formed : IsWellFormed g) (linear : IsLinear g) (cycles : AreCyclesOf g c) (inside : s.production < length g.productions)
    (m : ℕ) (t : Bool) (same : m ≡ target_of g s) (test : t ≡ is_composite g m) (composite : t ≡ true) (head : ℕ) (u : Bool) (of_head : head ≡ head_of g s.production) (on : u ≡ is_step (told c head) s) where
  by_step : child_prefix g s parent ≡ prefix_by g s parent
  by_step = ap (λ t. cond {A = Prefix} t (prefix_by g s parent) bare) (ap (is_composite g) (sym same) ∙ (sym test ∙ composite))

  same_test : u ≡ continues g (head_of g s.production) s
  same_test = on ∙ (ap (λ k. is_step (told c k) s) of_head ∙ ap (λ o. is_step o s) (step_told g c formed linear cycles (head_of g s.production) (formed.heads s.production inside)))

  pub child_goes_on : (chain : Option ℕ) → u ≡ true → chain ≡ option_map (λ c. c + 1) parent.chain → record { bits = parent.bits; chain = chain } ≡ child_prefix g s parent
  child_goes_on chain e raised =
      ap (λ o. record { bits = parent.bits; chain = o }) raised ∙ sym (by_step ∙ ap (λ t. cond {A = Prefix} t (goes_on parent) (leaves g s parent)) (sym same_test ∙ e))

  pub child_leaves : (bits : List Bool) (chain : Option ℕ) (a : ℕ) → u ≡ false → a ≡ alternative_of g s.production →
      bits ≡ parent.bits ++ step_bits (record { chain = parent.chain; alternative = a; position = s.position }) → m < length g.modules → chain ≡ chain_by (told c m) 0 → record { bits = bits; chain = chain } ≡ child_prefix g s parent
  child_leaves bits chain a e alternative spelled below begun =
      let b = spelled ∙ ap (λ k. parent.bits ++ step_bits (record { chain = parent.chain; alternative = k; position = s.position })) alternative in
      let k = begun ∙ (ap (λ o. chain_by o 0) (step_told g c formed linear cycles m below) ∙ ap (λ n. chain_at g n 0) same) in
      ap (λ l. record { bits = l; chain = chain }) b ∙ (ap (λ o. record { bits = (leaves g s parent).bits; chain = o }) k ∙
      sym (by_step ∙ ap (λ t. cond {A = Prefix} t (goes_on parent) (leaves g s parent)) (sym same_test ∙ e)))
