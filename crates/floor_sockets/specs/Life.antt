-- What is known of a socket, and what is asked of it next.
use Rattle.std.specs.Prelude.{ℕ, Bool, true, false, ◌&&◌, ◌||◌, not, nat_le, nat_lt, Option, Some, None, if◌then◌else◌}
use Rattle.floor_sockets.specs.declared.life.Asked.{Asked}
use Rattle.floor_sockets.specs.declared.life.Asked.TheVariants as asked
use Rattle.floor_sockets.specs.declared.life.Deed.{Deed}
use Rattle.floor_sockets.specs.declared.life.Deed.TheVariants as deed
use Rattle.floor_sockets.specs.declared.life.Life.{Life}
use Rattle.floor_sockets.specs.declared.role.Role.{Role}
use Rattle.floor_sockets.specs.declared.role.Role.TheVariants as role

-- a socket that was opened: nothing is known of it, and nothing was asked
abbrev pub opened : Role → ℕ → Life
opened role group = record {
  role = role;
  group = group;
  is_readable = false;
  ends = false;
  has_more = false;
  is_held = false;
  has_bytes = false;
  is_blocked = false;
  is_over = false;
  asked = asked.Nothing;
}

-- who waits at a listener is accepted; of any other socket is read
abbrev pub reading : Role → Asked
reading role.Listener = asked.Accept
reading role.Member = asked.Read
reading role.AtDoor = asked.Read
reading role.MemberByDoor = asked.Read
reading role.Control = asked.Read
reading role.Observer = asked.Read
reading role.Console = asked.Read
reading role.Probe = asked.Read
reading role.Http = asked.Read

-- what is asked where nothing is: what is lent is written where the socket takes it; what a turn has left over is served, and before it was nothing is read; but neither of who is to be shut down or is held
abbrev pub to_ask : Life → Asked
to_ask l =
    if l.has_bytes && not l.is_blocked then asked.Write
    else if l.is_over || l.is_held then asked.Nothing
    else if l.has_more then asked.Serve
    else if not l.is_readable then asked.Nothing
    else reading l.role

-- one answer is awaited at a time
abbrev pub next_behind : Asked → Asked → Asked
next_behind asked.Nothing next = next
next_behind asked.Accept next = asked.Nothing
next_behind asked.Read next = asked.Nothing
next_behind asked.Serve next = asked.Nothing
next_behind asked.Write next = asked.Nothing
next_behind asked.Shut next = asked.Nothing

abbrev pub next_asked : Life → Asked
next_asked l = next_behind l.asked (to_ask l)

abbrev pub is_something : Asked → Bool
is_something asked.Nothing = false
is_something asked.Accept = true
is_something asked.Read = true
is_something asked.Serve = true
is_something asked.Write = true
is_something asked.Shut = true

-- something is to be asked
abbrev pub is_awaiting : Life → Bool
is_awaiting l = is_something (next_asked l)

-- the deed by which it is asked
abbrev pub deed_of : Asked → ℕ → Option Deed
deed_of asked.Nothing slot = None
deed_of asked.Accept slot = Some (deed.Accept slot)
deed_of asked.Read slot = Some (deed.Read slot)
deed_of asked.Serve slot = Some (deed.Serve slot)
deed_of asked.Write slot = Some (deed.Write slot)
deed_of asked.Shut slot = Some (deed.Shut slot)

-- what the poll tells ------------------------------------------------------------------------------

-- something may be read; that the stream ends is kept
abbrev pub worded : Bool → Life → Life
worded ends l = record l { is_readable = true; ends = l.ends || ends }

-- it takes bytes
abbrev pub unblocked : Life → Life
unblocked l = record l { is_blocked = false }

-- what is said of it --------------------------------------------------------------------------------

abbrev pub lent : Bool → Life → Life
lent has_bytes l = record l { has_bytes = has_bytes }

abbrev pub held : Bool → Life → Life
held is_held l = record l { is_held = is_held }

abbrev pub renamed : Role → ℕ → Life → Life
renamed role group l = record l { role = role; group = group }

-- the first where it is being shut, else the second
abbrev pub at_shut : Asked → Life → Life → Life
at_shut asked.Nothing asked_for other = other
at_shut asked.Accept asked_for other = other
at_shut asked.Read asked_for other = other
at_shut asked.Serve asked_for other = other
at_shut asked.Write asked_for other = other
at_shut asked.Shut asked_for other = asked_for

-- it is to be shut down, which answers whatever else was asked
abbrev pub over : Life → Life
over l = at_shut l.asked l (record l { is_over = true; asked = asked.Nothing })

-- it is being shut
abbrev pub is_shutting : Asked → Bool
is_shutting asked.Nothing = false
is_shutting asked.Accept = false
is_shutting asked.Read = false
is_shutting asked.Serve = false
is_shutting asked.Write = false
is_shutting asked.Shut = true

-- the answers to deeds: one that wasn't asked changes nothing ---------------------------------------

-- the first where a read was asked, else the second
abbrev pub at_read : Asked → Life → Life → Life
at_read asked.Nothing asked_for other = other
at_read asked.Accept asked_for other = other
at_read asked.Read asked_for other = asked_for
at_read asked.Serve asked_for other = other
at_read asked.Write asked_for other = other
at_read asked.Shut asked_for other = other

-- the same of an accept, of what is served, and of a write
abbrev pub at_accept : Asked → Life → Life → Life
at_accept asked.Nothing asked_for other = other
at_accept asked.Accept asked_for other = asked_for
at_accept asked.Read asked_for other = other
at_accept asked.Serve asked_for other = other
at_accept asked.Write asked_for other = other
at_accept asked.Shut asked_for other = other

abbrev pub at_serve : Asked → Life → Life → Life
at_serve asked.Nothing asked_for other = other
at_serve asked.Accept asked_for other = other
at_serve asked.Read asked_for other = other
at_serve asked.Serve asked_for other = asked_for
at_serve asked.Write asked_for other = other
at_serve asked.Shut asked_for other = other

abbrev pub at_write : Asked → Life → Life → Life
at_write asked.Nothing asked_for other = other
at_write asked.Accept asked_for other = other
at_write asked.Read asked_for other = other
at_write asked.Serve asked_for other = other
at_write asked.Write asked_for other = asked_for
at_write asked.Shut asked_for other = other

-- a read found so many bytes: where these are 4,096, or the stream ends, more may be there
abbrev pub came : ℕ → Bool → Life → Life
came count has_more l = at_read l.asked (record l { is_readable = l.ends || nat_le 4096 count; has_more = has_more; asked = asked.Nothing }) l

-- nothing is there, or nobody waits
abbrev pub none_came : Life → Life
none_came l =
    let none : Life = record l { is_readable = false; asked = asked.Nothing } in
    at_read l.asked none (at_accept l.asked none l)

-- one was accepted, and others may wait
abbrev pub one_came : Life → Life
one_came l = at_accept l.asked (record l { asked = asked.Nothing }) l

-- an accept failed: it is held
abbrev pub put_off : Life → Life
put_off l = at_accept l.asked (record l { is_held = true; asked = asked.Nothing }) l

abbrev pub served : Bool → Life → Life
served has_more l = at_serve l.asked (record l { has_more = has_more; asked = asked.Nothing }) l

-- so many bytes of those that were lent were taken: where these are fewer, the socket takes no more until the poll says so
abbrev pub taken : ℕ → ℕ → Life → Life
taken count lent l = at_write l.asked (record l { is_blocked = nat_lt count lent; has_bytes = nat_lt count lent; asked = asked.Nothing }) l

-- what a deadline brings ----------------------------------------------------------------------------

abbrev pub shutting : Life → Life
shutting l = record l { is_over = true; asked = asked.Shut }

-- a listener that waits accepts again; whoever else, or is to be shut down, is shut
abbrev pub due_of : Role → Life → Life
due_of role.Listener l = if l.is_over then shutting l else record l { is_held = false; asked = asked.Accept }
due_of role.Member l = shutting l
due_of role.AtDoor l = shutting l
due_of role.MemberByDoor l = shutting l
due_of role.Control l = shutting l
due_of role.Observer l = shutting l
due_of role.Console l = shutting l
due_of role.Probe l = shutting l
due_of role.Http l = shutting l

abbrev pub at_deadline : Life → Life
at_deadline l = due_of l.role l

-- an accept is awaited
abbrev pub is_accepting : Asked → Bool
is_accepting asked.Nothing = false
is_accepting asked.Accept = true
is_accepting asked.Read = false
is_accepting asked.Serve = false
is_accepting asked.Write = false
is_accepting asked.Shut = false
