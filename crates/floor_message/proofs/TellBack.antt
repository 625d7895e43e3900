-- What is written of a message from the server is read as that message.
use Rattle.std.proofs.Common.{◌≡◌, ◌/◌, [], length, Some, None, refl, ◌∙◌, ap}
use Rattle.std.specs.Prelude.{option_map, option_and_then, if◌then◌else◌, ◌==◌}
use Rattle.floor_wire.specs.Attributes.{Attributes}
use Rattle.floor_wire.specs.Header.{CommonHeader, header_of}
use Rattle.floor_wire.specs.Spelled.{spelled}
use Rattle.floor_wire.specs.Spelling.{IsWritable, canon, cleared}
use Rattle.floor_wire.specs.View.{attributes_of, items}
use Rattle.floor_message.specs.Fits.{HeadFits, TellFits}
use Rattle.floor_message.specs.Picked.{mandatory}
use Rattle.floor_message.specs.Primitive.{primitive_of, primitive_number}
use Rattle.floor_message.specs.Tell.{tell, tell_of, told, by_payload, unless_mandatory, head_of}
use Rattle.floor_message.specs.Written.{tell_attrs, tell_bytes, tell_primitive}
use Rattle.floor_message.specs.declared.head.Head.{Head}
use Rattle.floor_message.specs.declared.primitive.Primitive.{Primitive}
use Rattle.floor_message.specs.declared.tell.Tell.{Tell}
use Rattle.floor_message.proofs.Heads.{headed, head_back, primitive_back}
use Rattle.floor_wire.specs.AttrsCode.{items-attributes_of}
use Rattle.floor_message.proofs.Plain.{cleared_same, mandatory_none, plain_tell}
use Rattle.floor_message.proofs.RoundTrip.{tell_back}

told_back : (h : CommonHeader) (p : Primitive) (attrs : Attributes) (t : Tell) → h.version ≡ 1 → h.primitive ≡ primitive_number p → mandatory attrs ≡ []
    → tell_of p (items attrs) ≡ Some t → told h (Some attrs) ≡ Some t
told_back h p attrs t v n m r =
    ap (λ x. if x == 1 then option_and_then (λ q. by_payload q (Some attrs)) (primitive_of h.primitive) else None) v
    ∙ ap (λ x. option_and_then (λ q. by_payload q (Some attrs)) (primitive_of x)) n
    ∙ ap (λ x. option_and_then (λ q. by_payload q (Some attrs)) x) (primitive_back p)
    ∙ ap (λ x. unless_mandatory x (tell_of p (items attrs))) m ∙ r

-- what is spelled by the writing of attributes with M clear
pub read_back : ((a : Attributes) → IsWritable a → spelled (canon a) ≡ Some (cleared a)) → (a : Attributes) → IsWritable a → cleared a ≡ a → spelled (canon a) ≡ Some a
read_back read a w same = read a w ∙ ap Some same

pub written_tell : ((a : Attributes) → IsWritable a → spelled (canon a) ≡ Some (cleared a)) → (head : Head) (t : Tell) → HeadFits head → TellFits t
    → tell (tell_bytes head t) ≡ Some (head, t)
unfolding tell
written_tell read head t h fits =
    let attrs = attributes_of (tell_attrs t) in
    let p = primitive_number (tell_primitive t) in
    let units = length (canon attrs) / 4 in
    let m = header_of (headed p units head (canon attrs)) in
    let version : m.version ≡ 1 = refl in
    ap (λ s. option_map (λ x. (head_of m, x)) (told m s)) (read_back read attrs fits.attributes.writable (cleared_same attrs (plain_tell t)))
    ∙ ap (λ o. option_map (λ x. (head_of m, x)) o)
    (told_back m (tell_primitive t) attrs t version refl (mandatory_none attrs (plain_tell t))
    (ap (λ l. tell_of (tell_primitive t) l) (items-attributes_of (tell_attrs t)) ∙ tell_back t fits.numbers))
    ∙ ap (λ x. Some (x, t)) (head_back p units head (canon attrs) h)
