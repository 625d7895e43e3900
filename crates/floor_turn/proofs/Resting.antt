-- What is left where nothing is to be done.
use Rattle.std.proofs.Common.{◌≡◌, Bool, true, false, refl, sym, ◌∙◌, subst}
use Rattle.std.specs.Prelude.{◌&&◌, ◌||◌, if◌then◌else◌, not}
use Rattle.floor_sockets.specs.declared.life.Asked.{Asked}
use Rattle.floor_sockets.specs.declared.life.Asked.TheVariants as asked
use Rattle.floor_sockets.specs.declared.role.Role.{Role}
use Rattle.floor_sockets.specs.declared.role.Role.TheVariants as role
use Rattle.floor_sockets.specs.Life.{is_something, next_behind, reading, to_ask}
use Rattle.floor_turn.specs.Laws.{NothingIsLeft}
use Rattle.floor_turn.proofs.Handing.{never}

is_asked : (r : Role) → is_something (reading r) ≡ true
is_asked role.Listener = refl
is_asked role.Member = refl
is_asked role.AtDoor = refl
is_asked role.MemberByDoor = refl
is_asked role.Control = refl
is_asked role.Observer = refl
is_asked role.Console = refl
is_asked role.Probe = refl
is_asked role.Http = refl

-- what is asked of a socket that isn't over or held
abbrev asks : Bool → Bool → Bool → Bool → Role → Asked
asks writes off more readable r = if writes then asked.Write else if off then asked.Nothing else if more then asked.Serve else if not readable then asked.Nothing else reading r

none_left : (writes more readable : Bool) (r : Role) → is_something (asks writes false more readable r) ≡ false → (readable ≡ false) × (more ≡ false) × (writes ≡ false)
none_left true more readable r e = never ((readable ≡ false) × (more ≡ false) × (true ≡ false)) (sym e)
none_left false true readable r e = never ((readable ≡ false) × (true ≡ false) × (false ≡ false)) (sym e)
none_left false false true r e = never ((true ≡ false) × (false ≡ false) × (false ≡ false)) (sym e ∙ is_asked r)
none_left false false false r e = (refl, refl, refl)

neither : (over held : Bool) → over ≡ false → held ≡ false → (over || held) ≡ false
neither true held e f = e
neither false held e f = f

pub nothing_left : NothingIsLeft
nothing_left s slot l done at unasked goes_on free =
    let awaits : is_something (next_behind l.asked (to_ask l)) ≡ false = done.nobody slot l at in
    let asks_none : is_something (to_ask l) ≡ false = subst (λ (a : Asked). is_something (next_behind a (to_ask l)) ≡ false) unasked awaits in
    none_left (l.has_bytes && not l.is_blocked) l.has_more l.is_readable l.role
    (subst (λ (off : Bool). is_something (asks (l.has_bytes && not l.is_blocked) off l.has_more l.is_readable l.role) ≡ false) (neither l.is_over l.is_held goes_on free) asks_none)
