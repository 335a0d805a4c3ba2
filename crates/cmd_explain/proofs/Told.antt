-- What a run under a safe view tells of two names is the text that is to be written.
use Rattle.std.proofs.Common.{◌≡◌, ◌⊎◌, ℕ, List, refl, ap, ◌∙◌, inl, inr}
use Rattle.std.specs.Prelude.{codes}
use Rattle.wf_model.specs.View.{View}
use Rattle.wf_model.specs.Finishing.{ExpandsComposites}
use Rattle.wf_model.specs.Items.{IsVisible}
use Rattle.wf_message.specs.Endings.{End, Done}
use Rattle.wf_safe.specs.SafeViews.{IsSafeView}
use Rattle.wf_flat.specs.declared.item.Item.{Item as ItemHeld}
use Rattle.wf_flat.specs.Table.{IsTableOf}
use Rattle.wf_flat.specs.Item.{HasNoItem}
use Rattle.chain_model.specs.Chains.{ChainStep}
use Rattle.chain_model.specs.Shortest.{IsFirstShortestChain}
use Rattle.chain_model.specs.ChainText.{chain_text}
use Rattle.wf_chain.specs.HeldItems.{item_name}
use Rattle.wf_chain.specs.ViewedRuns.{ViewedRunValue, grammar_in, view_in, full_in, events_in, item_in, IsItemIn, IsVisibleIn}
use Rattle.wf_chain.specs.Chains.{HasNoChain}
use Rattle.cmd_explain.specs.Reasons.{AreNamed, AreShown, unknown, hidden, none, chain, IsReason}
use Rattle.cmd_explain.proofs.Reasons.{one_reason}

module _ (v : ViewedRunValue) (safe : IsSafeView v.viewed) (run : IsTableOf (grammar_in v) v.run) (first second : List ℕ) where
  abbrev R : End → List ℕ → Type 0
  R = IsReason (grammar_in v) (view_in v) (events_in v) first second

  composites : ExpandsComposites (grammar_in v) (view_in v)
  composites = safe.held.is_view.expanded

  -- it is the only one
  pub only : (text : List ℕ) → R Done text → (e : End) (t : List ℕ) → R e t → (e ≡ Done) × (t ≡ text)
  only text is e t h = one_reason (grammar_in v) (view_in v) safe.accepted.formed (events_in v) run.accepted.0 first second safe.accepted.proper composites e Done t text h is

  pub unknown_told : HasNoItem (grammar_in v) v.run first ⊎ HasNoItem (grammar_in v) v.run second → R Done (codes "unknown\n")
  unknown_told h = record { done = refl; d = full_in v; full = safe.full.full; reason = unknown h refl }

  module _ (i j : ItemHeld) (found : IsItemIn v i) (named : item_name (grammar_in v) v.run i ≡ first) (found_too : IsItemIn v j) (named_too : item_name (grammar_in v) v.run j ≡ second) where
    are_named : AreNamed (grammar_in v) (events_in v) first second (item_in v i) (item_in v j)
    are_named = record { first_there = found.there; first_is = named; second_there = found_too.there; second_is = named_too }

    pub hidden_told : (AreShown (grammar_in v) (view_in v) (events_in v) (item_in v i) (item_in v j) → ⊥) → R Done (codes "hidden\n")
    hidden_told h = record { done = refl; d = full_in v; full = safe.full.full; reason = hidden (item_in v i) (item_in v j) are_named h refl }

    module _ (shown : AreShown (grammar_in v) (view_in v) (events_in v) (item_in v i) (item_in v j)) where
      pub none_told : HasNoChain v i j → R Done (codes "no\n")
      none_told h = record { done = refl; d = full_in v; full = safe.full.full; reason = none (item_in v i) (item_in v j) are_named shown h refl }

      pub chain_told : (steps : List ChainStep) → IsFirstShortestChain (grammar_in v) (view_in v) (full_in v) (grammar_in v).start (events_in v) (item_in v i) steps (item_in v j) → (text : List ℕ) → text ≡ chain_text (item_in v i) steps → R Done text
      chain_told steps h text same = record { done = refl; d = full_in v; full = safe.full.full; reason = chain (item_in v i) (item_in v j) are_named shown steps h same }
