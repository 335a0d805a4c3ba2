-- How a stage reads: a file is held, and a value is taken from its bytes, or they are declined.
use Rattle.std.proofs.Common.{◌≡◌, ℕ, Bool, List, Option, sym, subst, arith}
use Rattle.std.specs.Prelude.{Result, Ok, Err, IfOk, IfErr}
use Rattle.wf_io.specs.Told.{File}
use Rattle.wf_io.specs.Readings.{Reading}
use Rattle.wf_message.specs.declared.ending.Stop.{Stop}
use Rattle.wf_message.specs.Endings.{end_of}
use Rattle.wf_stage.specs.Kinds.{Kind}
use Rattle.wf_stage.specs.Stages.{Declines, Holds, RefusesNone}
use Rattle.wf_stage.specs.Promises.{HasRead, HasStopped, Reads}
use Rattle.wf_stage.proofs.Stages.{told_by, declines_stop, held_stops, declines_refused, refused_cause}

-- two facts of a result make a third
pub IfOk-and : {A E : Type 0} (r : Result A E) (P Q R : A → Type 0) → ((a : A) → P a → Q a → R a) → IfOk r P → IfOk r Q → IfOk r R
IfOk-and (Ok a) P Q R f p q = f a p q
IfOk-and (Err e) P Q R f p q = tt

module _ {S A B : Type 0} {files : S → Option (List ℕ → File)} {readings : S → Option (List Reading)} {faults : S → ℕ} {kind : Kind} {name : List ℕ} (last : S → Bool) (Tells : List ℕ → A → Type 0) (seen : B → A) (Refuses : List ℕ → Option ℕ → List ℕ → Type 0) where
  -- the file is held, and its bytes tell a value or are declined
  pub reads_on : (s t : S) (bytes held : List ℕ) → HasRead files readings faults kind name Holds s t bytes → held ≡ bytes → (r : Result B Stop) → IfOk r (λ v. Tells held (seen v)) → IfErr r (λ e. Declines kind.word (Refuses held) (end_of e)) → Reads files readings faults last kind name Tells seen Refuses s t r
  reads_on s t bytes held h is (Ok v) tells declines = record { told = λ f told. told_by kind (f name) Tells bytes held (seen v) (h.told f told) is tells; count = h.count; same = h.same; once = h.once }
  reads_on s t bytes held h is (Err e) tells declines = record {
    stops = λ f told. declines_stop kind (f name) Refuses bytes held (end_of e) (h.told f told) is declines;
    cause = refused_cause (faults s) (faults t) (last t) (end_of e) h.count (declines_refused kind.word (Refuses held) (end_of e) declines);
    same = h.same;
    once = h.once;
    later = let count = h.count in omega arith;
  }

  -- the file is not held
  pub reads_stop : (s t : S) (e : Stop) (r : Result B Stop) → (y : Stop) × (r ≡ Err y) × (y ≡ e) → HasStopped files readings faults last kind name RefusesNone s t (end_of e) → Reads files readings faults last kind name Tells seen Refuses s t r
  reads_stop s t e r p h = subst (Reads files readings faults last kind name Tells seen Refuses s t) (sym p.1) (subst (λ y. HasStopped files readings faults last kind name Refuses s t (end_of y)) (sym p.2) (record {
    stops = λ f told. held_stops kind (f name) Refuses (end_of e) (h.stops f told);
    cause = h.cause;
    same = h.same;
    once = h.once;
    later = h.later;
  }))
