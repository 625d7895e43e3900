-- What follows for a connection from what came at a door in front of its first message.
use Rattle.std.specs.Prelude.{ℕ, List, Bool, true, false, Result, Ok, Err}
use Rattle.floor_proxy.specs.declared.header.NamedBy.TheVariants.{Certificate, UniqueId}
use Rattle.floor_proxy.specs.declared.header.ProxyRead.{ProxyRead}
use Rattle.floor_proxy.specs.declared.header.ProxyRead.TheVariants.{More, Local, Named}
use Rattle.floor_proxy.specs.declared.refusal.ProxyRefusal.{ProxyRefusal}
use Rattle.floor_proxy.specs.Header.{proxy}
use Rattle.floor_server.specs.declared.departure.Refused.TheVariants as refused
use Rattle.floor_server.specs.declared.entry.Entrance.{Entrance}
use Rattle.floor_server.specs.declared.entry.Entrance.TheVariants as entrance
use Rattle.floor_poll.specs.declared.header.Verdict.{Verdict}
use Rattle.floor_poll.specs.declared.header.Verdict.TheVariants as verdict

-- what a header says at a door: who somebody is, by the certificate or by the unique-id; at the one for health nobody comes in
abbrev pub read_at : Entrance → List ℕ → Result ProxyRead ProxyRefusal
read_at entrance.ByCertificate bytes = proxy Certificate bytes
read_at entrance.ById bytes = proxy UniqueId bytes
read_at entrance.Health bytes = Ok Local

-- more has to come, unless the time or the stream is over; who only looks is let go; who is named comes in; others don't
abbrev pub follows : Result ProxyRead ProxyRefusal → Bool → Verdict
follows (Ok More) true = verdict.Refuse refused.NoHeader
follows (Ok More) false = verdict.Wait
follows (Ok Local) is_over = verdict.LetGo
follows (Ok (Named conference user len)) is_over = verdict.Enter conference user len
follows (Err refusal) is_over = verdict.Refuse (refused.ByHeader refusal)
