-- The inquiry has the replies of the definition to its first questions, until it asks no more.
use mathlib.Core.Path.{refl, ap, ◌∙◌}
use native.Mathlib.Omega.{arith}
use borrow.Author.Rules.{rules}
use Rattle.std.specs.Prelude.{Ok}
use Rattle.roots.specs.declared.Roots.{Roots}
use Rattle.poly.proofs.Systems.{systems_refused, systems_solved}
use Rattle.touching.specs.declared.Replies.{Replies}
use Rattle.inquiry.specs.declared.Asked.TheVariants.{Question, Finished}
use Rattle.inquiry.proofs.Theorem.{start_few}
use Rattle.inquiry.proofs.Loop.{brief_has, along_start, along_room, along_next, along_end}
use Rattle.contact.proofs.Answer.{listed_is, listed_refused}
use Rattle.contact.proofs.listed.Goals as goal

pub returns-in_err-s-clause-value : goal.returns-in_err-s-clause-value
returns-in_err-s-clause-value c = listed_refused _ _ _ _ _ _ {answer = c.from_residual.result} c.in_err-s.ensures (search rules)

pub returns-in_err-s-clause-systems : goal.returns-in_err-s-clause-systems
returns-in_err-s-clause-systems c = systems_refused _ _ _ c.in_err-s.ensures _ {a = c.from_residual.result} refl (search rules)

pub loop-t-init : goal.loop-t-init
loop-t-init c = let s = c.in_ok-s in rw c.default-replies.ensures (along_start _ _ s.s (brief_has _ _ _ (Ok s.s) s.ensures))

pub with-replies-requires : goal.with-replies-requires
with-replies-requires c =
    let at = c.in-Question in
    let room = along_room _ _ (start_few _ _ _ _) _ (Question at.t) at.ensures c.loop-t.invariant refl in
    omega (arith, room)

pub loop-t-smaller : goal.loop-t-smaller
loop-t-smaller c =
    let at = c.in-Question in
    let room = along_room _ _ (start_few _ _ _ _) _ (Question at.t) at.ensures c.loop-t.invariant refl in
    let more = ap (λ (rs : Replies). rs.count) c.with-replies.ensures in
    omega (arith, room, more)

pub loop-t-preserved : goal.loop-t-preserved
loop-t-preserved c =
    let at = c.in-Question in
    rw (c.with-replies.ensures, c.touches.ensures)
    (along_next _ _ (start_few _ _ _ _) _ (Question at.t) at.ensures c.loop-t.invariant refl)

pub returns-in-Finished-clause-value : goal.returns-in-Finished-clause-value
returns-in-Finished-clause-value c =
    let at = c.in-Finished in
    ap (λ (l : Roots). Ok l) (along_end _ _ (start_few _ _ _ _) _ (Finished at.value) at.ensures c.loop-t.invariant refl)
    ∙ listed_is _ _ _ _ _ (Ok c.in_ok-s.s) c.in_ok-s.ensures

pub returns-in-Finished-clause-systems : goal.returns-in-Finished-clause-systems
returns-in-Finished-clause-systems c = systems_solved _ _ _ c.in_ok-s.ensures _ refl
