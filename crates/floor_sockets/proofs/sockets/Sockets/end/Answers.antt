use Rattle.std.proofs.Common.{◌≡◌, ap, sym, ◌∙◌, true}
use Rattle.std.specs.Prelude.{Option, is_some}
use Rattle.slab.specs.Slab.{get}
use Rattle.floor_sockets.specs.declared.life.Life.{Life}
use Rattle.floor_sockets.specs.Sockets.{Sockets, life_at}
use Rattle.floor_sockets.proofs.Listing.{set_kept}
use Rattle.floor_sockets.proofs.Timing.{put_sound, room_in, same_sound}
use Rattle.floor_sockets.proofs.sockets.Sockets.end.Goals as goal

pub put-requires : goal.put-requires
put-requires c =
    let there : is_some (get c.self.inside.lives c.args.slot) ≡ true = ap (λ (s : Sockets). is_some (life_at s c.args.slot)) c.self.view_is ∙ ap (λ (z : Option Life). is_some z) (sym c.in-Some.ensures.value) in
    room_in c.self.inside.lives c.self.inside.line c.self.inside.is_short c.self.inside.deadlines c.args.slot c.self.invariant there

pub invariant_of-self : goal.invariant_of-self
invariant_of-self c =
    let kept = set_kept c.self.inside.lives c.set_in.new.lives c.args.slot c.over.result c.set_in.ensures.here c.set_in.ensures.others in
    let there : is_some (get c.self.inside.lives c.args.slot) ≡ true = ap (λ (s : Sockets). is_some (life_at s c.args.slot)) c.self.view_is ∙ ap (λ (z : Option Life). is_some z) (sym c.in-Some.ensures.value) in
    put_sound c.set_in.new.lives c.set_in.new.line c.set_in.new.is_short _ c.args.slot _ c.self.inside.deadlines c.put.new.self
    (same_sound c.self.inside.lives c.set_in.new.lives c.self.inside.line c.set_in.new.line c.self.inside.is_short c.set_in.new.is_short c.self.inside.deadlines c.self.invariant c.set_in.ensures.len c.set_in.ensures.listed c.set_in.ensures.once kept)
    c.put.ensures.next c.put.ensures.room (kept c.args.slot there)
