-- What a stage makes of the outcome of what follows it.
use Rattle.std.proofs.Common.{◌≡◌, Bool, ◌⊎◌, ℕ, List, ◌++◌, [], Option, None, refl, sym, ap, ◌∙◌, subst, inl, inr, ⊎_elim, arith, true≢false, append-nil}
use Rattle.wf_io.specs.Told.{File}
use Rattle.std.specs.Prelude.{Result, Err, IfErr}
use Rattle.wf_message.specs.declared.ending.Stop.{Stop}
use Rattle.wf_message.specs.Endings.{End, Done, Usage, Refused, ReadFault, WriteFault, NoMemory, end_of}
use Rattle.wf_stage.specs.Kinds.{Kind}
use Rattle.wf_stage.specs.Stages.{Stage, too_long, broken, refused, goes_on, IsTold, StopsAt, Declines, Holds, RefusesNone, IsRefusedOrWanting}
use Rattle.wf_stage.specs.Causes.{IsReadingCause}
use Rattle.wf_stage.specs.Ends.{EndsBehind}
use Rattle.wf_stage.proofs.Ends.{Begins, nothing_put, wanting}

module _ {A : Type 0} (kind : Kind) (first : List ℕ) (file : File) (Tells : List ℕ → A → Type 0) (Refuses : List ℕ → Option ℕ → List ℕ → Type 0) (Next : A → End → List ℕ → Type 0) where
  alone : (t : List ℕ) → t ≡ first → (rest : List ℕ) × (t ≡ first ++ rest)
  alone t p = ([], p ∙ sym (append-nil first))

  -- the texts of a stage begin as those of what follows it do
  pub stage_begins : ((a : A) → Begins first (Next a)) → Begins first (Stage kind first file Tells Refuses Next)
  stage_begins begins e t (too_long l x y) = alone t y
  stage_begins begins e t (broken l b x y) = alone t y
  stage_begins begins e t (refused l b line fault r x y) = alone t y
  stage_begins begins e t (goes_on l b a tells next) = begins a e t next

  -- a stage that stops ends the program
  pub stop_ends : (old new : Option (List ℕ)) → ((a : A) → Begins first (Next a)) → (e : End) → StopsAt kind file Refuses e → new ≡ old → EndsBehind first (Stage kind first file Tells Refuses Next) e old new
  stop_ends old new begins Done h s = absurd h
  stop_ends old new begins Usage h s = absurd h
  stop_ends old new begins (Refused word line fault) h s =
      nothing_put first _ (stage_begins begins) (Refused word line fault) old new (λ w. (cc)) s (λ w.
      ⊎_elim (λ l. too_long l.0 (ap (λ q. Refused q line fault) h.0 ∙ (ap (λ n. Refused kind.word n fault) l.1 ∙ ap (Refused kind.word None) l.2)) refl)
      (λ q. refused q.0 q.1 line fault q.2 (ap (λ r. Refused r line fault) h.0) refl) h.1)
  stop_ends old new begins (ReadFault word) h s = nothing_put first _ (stage_begins begins) (ReadFault word) old new (λ w. (cc)) s (λ w. broken h.1 h.2 (ap ReadFault h.0) refl)
  stop_ends old new begins WriteFault h s = absurd h
  stop_ends old new begins NoMemory h s = wanting first _ (stage_begins begins) old new s

  -- a stage that goes on with the one value that its file tells ends as what follows
  pub on_ends : (old new : Option (List ℕ)) (a : A) → IsTold kind file Tells a → ((b : A) → Tells file.bytes b → b ≡ a) → ((line : Option ℕ) (fault : List ℕ) → Refuses file.bytes line fault → ⊥) → (e : End) → EndsBehind first (Next a) e old new → EndsBehind first (Stage kind first file Tells Refuses Next) e old new
  on_ends old new a told one none e ends = record {
    whole = λ w. let r = ends.whole w in (r.0, goes_on told.short told.whole a told.tells r.1, r.2);
    begun = λ d t st. ends.begun d t (go d t st);
    due = λ w d t st. ends.due w d t (go d t st);
  }
    where
      go : (d : End) (t : List ℕ) → Stage kind first file Tells Refuses Next d t → Next a d t
      go d t (too_long l x y) = absurd (let s = told.short in omega arith)
      go d t (broken l b x y) = absurd (true≢false (sym b ∙ told.whole))
      go d t (refused l b line fault r x y) = absurd (none line fault r)
      go d t (goes_on l b c tells next) = subst (λ x. Next x d t) (one c tells) next

-- what declines by one refusal declines by another that comes of it
pub declines_by : (place : List ℕ) (P Q : Option ℕ → List ℕ → Type 0) → ((line : Option ℕ) (fault : List ℕ) → P line fault → Q line fault) → (e : End) → Declines place P e → Declines place Q e
declines_by place P Q f Done h = absurd h
declines_by place P Q f Usage h = absurd h
declines_by place P Q f (Refused word line fault) h = (h.0, f line fault h.1)
declines_by place P Q f (ReadFault word) h = absurd h
declines_by place P Q f WriteFault h = absurd h
declines_by place P Q f NoMemory h = tt

-- what declines is handed on as it is
pub handed_on : {T : Type 0} (place : List ℕ) (Q : Option ℕ → List ℕ → Type 0) (r : Result T Stop) (d : Stop) → (y : Stop) × (r ≡ Err y) × (y ≡ d) → Declines place Q (end_of d) → IfErr r (λ e. Declines place Q (end_of e))
handed_on place Q r d p h = subst (λ s. IfErr s (λ e. Declines place Q (end_of e))) (sym p.1) (subst (λ e. Declines place Q (end_of e)) (sym p.2) h)

-- what reads and declines stops
pub declines_stop : (kind : Kind) (file : File) (Refuses : List ℕ → Option ℕ → List ℕ → Type 0) (bytes seen : List ℕ) (e : End) → IsTold kind file Holds bytes → seen ≡ bytes → Declines kind.word (Refuses seen) e → StopsAt kind file Refuses e
declines_stop kind file Refuses bytes seen Done told s h = absurd h
declines_stop kind file Refuses bytes seen Usage told s h = absurd h
declines_stop kind file Refuses bytes seen (Refused word line fault) told s h = (h.0, inr (told.short, told.whole, subst (λ b. Refuses b line fault) (s ∙ told.tells) h.1))
declines_stop kind file Refuses bytes seen (ReadFault word) told s h = absurd h
declines_stop kind file Refuses bytes seen WriteFault told s h = absurd h
declines_stop kind file Refuses bytes seen NoMemory told s h = tt

-- a refusal declines
pub declined : (place : List ℕ) (Q : Option ℕ → List ℕ → Type 0) (e : End) (line : Option ℕ) (fault : List ℕ) → e ≡ Refused place line fault → Q line fault → Declines place Q e
declined place Q e line fault is h = subst (Declines place Q) (sym is) (refl, h)

-- a fault that is refused, or want of memory, declines
pub fault_declines : {F : Type 0} (place : List ℕ) (Q : Option ℕ → List ℕ → Type 0) (lack f : F) (line : Option ℕ) (text : List ℕ) (e : End) → (f ≡ lack) ⊎ Q line text → (f ≡ lack → e ≡ NoMemory) → (f ≡ lack) ⊎ (e ≡ Refused place line text) → Declines place Q e
fault_declines place Q lack f line text e fault memory told =
    ⊎_elim (λ m. wants (memory m)) (λ h. ⊎_elim (λ m. wants (memory m)) (λ r. declined place Q e line text r h) told) fault
  where
    wants : e ≡ NoMemory → Declines place Q e
    wants m = subst (Declines place Q) (sym m) tt

-- what is told of bytes that are held is told by the file
pub told_by : {A : Type 0} (kind : Kind) (file : File) (Tells : List ℕ → A → Type 0) (bytes seen : List ℕ) (a : A) → IsTold kind file Holds bytes → seen ≡ bytes → Tells seen a → IsTold kind file Tells a
told_by kind file Tells bytes seen a told s t = record { short = told.short; whole = told.whole; tells = subst (λ b. Tells b a) (s ∙ told.tells) t }

-- a file that cannot be held whole stops whatever is refused
pub held_stops : (kind : Kind) (file : File) (Refuses : List ℕ → Option ℕ → List ℕ → Type 0) (e : End) → StopsAt kind file RefusesNone e → StopsAt kind file Refuses e
held_stops kind file Refuses Done h = absurd h
held_stops kind file Refuses Usage h = absurd h
held_stops kind file Refuses (Refused word line fault) h = (h.0, ⊎_elim (λ l. inl l) (λ q. absurd q.2) h.1)
held_stops kind file Refuses (ReadFault word) h = h
held_stops kind file Refuses WriteFault h = absurd h
held_stops kind file Refuses NoMemory h = tt

-- what declines is a refusal, or want of memory
pub declines_refused : (place : List ℕ) (Q : Option ℕ → List ℕ → Type 0) (e : End) → Declines place Q e → IsRefusedOrWanting e
declines_refused place Q Done h = h
declines_refused place Q Usage h = h
declines_refused place Q (Refused word line fault) h = tt
declines_refused place Q (ReadFault word) h = h
declines_refused place Q WriteFault h = h
declines_refused place Q NoMemory h = tt

-- this is a cause where the shelf is as it was
pub refused_cause : (before after : ℕ) (last : Bool) (e : End) → after ≡ before → IsRefusedOrWanting e → IsReadingCause before after last e
refused_cause before after last Done count h = absurd h
refused_cause before after last Usage count h = absurd h
refused_cause before after last (Refused word line fault) count h = count
refused_cause before after last (ReadFault word) count h = absurd h
refused_cause before after last WriteFault count h = absurd h
refused_cause before after last NoMemory count h = count
