-- Of a call that gives something, what is said of whether it was done.
use Rattle.std.proofs.Common.{◌≡◌, Option, Some, None, Result, Ok, Err, ap}
use Rattle.std.specs.Prelude.{IfErr, OnErr, OnOk}
use Rattle.floor_machine.specs.declared.machine.Refusal.{Refusal}
use Rattle.floor_machine.specs.Machine.{IsRefusedBy}
use Rattle.floor_machine.specs.steps.Frame.{done}

pub ok-done : {T E : Type 0} (P : Type 0) (r : Result T E) → OnOk (done r) P → OnOk r P
ok-done P (Ok x) h = h
ok-done P (Err e) h = h

pub err-done : {T E : Type 0} (P : Type 0) (r : Result T E) → OnErr (done r) P → OnErr r P
err-done P (Ok x) h = h
err-done P (Err e) h = h

pub why-done : {T E : Type 0} (P : E → Type 0) (r : Result T E) → IfErr (done r) P → IfErr r P
why-done P (Ok x) h = h
why-done P (Err e) h = h

pub refused-done : {T : Type 0} (o : Option Refusal) (r : Result T Refusal) → IsRefusedBy o (done r) → IsRefusedBy o r
refused-done (Some refusal) (Ok x) h = absurd (never h)
  where
    never : Rattle.std.proofs.Common.◌≡◌ {A = Result (Unit {0}) Refusal} (Ok tt) (Err refusal) → ⊥
    never w = cc
refused-done (Some refusal) (Err why) h = let same : why ≡ refusal = cc in ap (λ (x : Refusal). Err x) same
refused-done None (Ok x) h = tt
refused-done None (Err why) h = h
