-- Where ranks fall along chosen productions, an expansion by these ends.
use Rattle.std.proofs.Common.{◌≡◌, ℕ, zero, suc, ◌<◌, Bool, true, false, List, refl, sym, ap, ◌∙◌, subst, inl, inr, arith}
use Rattle.wf_model.specs.Grammar.{Grammar}
use Rattle.wf_model.specs.View.{View, expands, IsSeenModule, in_body}
use Rattle.wf_model.specs.Safe.{IsChosen, Ends}
use Rattle.wf_laws.specs.Ranked.{RanksFall, EndsLaw}

module _ (g : Grammar) (u : View) (choice : List (ℕ × ℕ)) (rank : ℕ → ℕ) (fall : RanksFall g u choice rank) where
  ends_within : (n m : ℕ) → rank m < n → IsSeenModule g u m → Ends g u (IsChosen choice) n m
  ends_within zero m h seen = absurd (omega arith)
  ends_within (suc n) m h seen = go (λ k l s. ends_within n k l s) (expands u m) refl
    where
      go : ((k : ℕ) → rank k < n → IsSeenModule g u k → Ends g u (IsChosen choice) n k) → (t : Bool) → expands u m ≡ t → Ends g u (IsChosen choice) (suc n) m
      go ih false e = inl e
      go ih true e =
          let q = fall m seen e in
          inr (q.0, q.1, q.2, λ k i. let l = q.3 k i in ih k (omega arith) (in_body q.0 q.2.0 (subst (IsSeenModule g u) (sym q.2.1) seen) (ap (expands u) q.2.1 ∙ e) i))

pub ends_law : EndsLaw
ends_law g u choice rank fall m seen = (suc (rank m), ends_within g u choice rank fall (suc (rank m)) m (omega arith) seen)
