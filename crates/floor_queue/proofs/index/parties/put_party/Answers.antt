use Rattle.std.proofs.Common.{◌≡◌, ◌∙◌, ap, arith, refl, true}
use Rattle.std.specs.Prelude.{not, insert, is_ok, nat_le}
use Rattle.std.proofs.lemmas.List.Sums.{prefix_len-le-length}
use Rattle.floor_queue.specs.declared.index.parties.Party.{Party}
use Rattle.floor_queue.specs.steps.Parties.{by_user, with_party}
use Rattle.floor_queue.proofs.Parting.{by_user-with_party, insert-party, up_to_user}
use Rattle.floor_queue.proofs.index.parties.put_party.Goals as goal

pub insert-room-requires : goal.insert-room-requires
insert-room-requires c =
    let place : c.up_to-place.result ≡ up_to_user c.args.party.user c.deref.result.now = c.up_to-place.ensures.value in
    omega (arith, place, prefix_len-le-length (λ (p : Party). not (not (nat_le p.user c.args.party.user))) c.deref.result.now, c.deref.ensures.len)

pub returns : goal.returns
returns c =
    let ok : is_ok c.insert-room.result ≡ true = c.insert-room.ensures.succeeds c.requires.room in
    let place : c.up_to-place.result ≡ up_to_user c.args.party.user c.args.parties.now.items = c.up_to-place.ensures.value ∙ ap (up_to_user c.args.party.user) c.deref.ensures.value in
    let items : c.insert-room.new.self.items ≡ with_party c.args.party c.args.parties.now.items =
    c.insert-room.ensures.items ∙ rw ok (ap (λ n. insert c.args.parties.now.items n c.args.party) place ∙ insert-party c.args.party c.args.parties.now.items) in
    record {
      by_user = ap by_user items ∙ by_user-with_party c.args.party c.args.parties.now.items c.requires.by_user;
      items = items;
      len = c.insert-room.ensures.len ∙ rw ok refl;
      capacity = c.insert-room.ensures.capacity;
    }
