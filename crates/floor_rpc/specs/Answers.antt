-- What answers a request, as JSON.
use Rattle.std.specs.Prelude.{[], codes}
use Rattle.json.specs.Json as json
use Rattle.json.specs.Json.{Json}
use Rattle.floor_rpc.specs.Json.{list_json, number_json, object_of, one_member, option_json, two_members}
use Rattle.floor_rpc.specs.Methods.{methods}
use Rattle.floor_rpc.specs.Names.{method_json, phase_json, status_json}
use Rattle.floor_rpc.specs.Pictures.{picture_json}
use Rattle.floor_rpc.specs.Words.{words_json}
use Rattle.floor_rpc.specs.declared.answer.Answer.{Answer}
use Rattle.floor_rpc.specs.declared.answer.Answer.TheVariants as answer
use Rattle.floor_rpc.specs.declared.answer.ConferenceStanding.{ConferenceStanding}
use Rattle.floor_rpc.specs.declared.answer.Conferences.{Conferences}
use Rattle.floor_rpc.specs.declared.answer.Created.{Created}
use Rattle.floor_rpc.specs.declared.answer.FloorChanged.{FloorChanged}
use Rattle.floor_rpc.specs.declared.answer.JournalEntry.{JournalEntry}
use Rattle.floor_rpc.specs.declared.answer.JournalPart.{JournalPart}
use Rattle.floor_rpc.specs.declared.answer.NextPlace.{NextPlace}
use Rattle.floor_rpc.specs.declared.answer.Opened.{Opened}
use Rattle.floor_rpc.specs.declared.answer.Placed.{Placed}
use Rattle.floor_rpc.specs.declared.answer.ServerStanding.{ServerStanding}
use Rattle.floor_rpc.specs.declared.answer.Stopped.{Stopped}
use Rattle.floor_rpc.specs.declared.answer.UserAdded.{UserAdded}
use Rattle.floor_rpc.specs.declared.answer.WatchedFrom.{WatchedFrom}
use Rattle.floor_rpc.specs.declared.answer.WordsTold.{WordsTold}

-- the place of an event in its conference's journal, which begins with 1
abbrev pub placed_json : Placed → Json
placed_json p = one_member (codes "place") (number_json p.place)

-- a conference that was opened, and the numbers that it got
abbrev pub opened_json : Opened → Json
opened_json o =
    json.object (
    json.member (codes "conference") (number_json o.conference) (
    json.member (codes "users") (list_json number_json o.users) (
    json.member (codes "floors") (list_json number_json o.floors) json.no_members)))

-- how a conference stands
abbrev pub conference_standing_json : ConferenceStanding → Json
conference_standing_json c =
    json.object (
    json.member (codes "conference") (number_json c.conference) (
    json.member (codes "title") (option_json json.string c.title) (
    json.member (codes "phase") (phase_json c.phase) (
    json.member (codes "members") (number_json c.members) (
    json.member (codes "ongoing") (number_json c.ongoing) (
    json.member (codes "events") (number_json c.events) (
    json.member (codes "kept") (json.boolean c.kept) json.no_members)))))))

-- conferences, ascending
abbrev pub conferences_json : Conferences → Json
conferences_json c = two_members (codes "conferences") (list_json conference_standing_json c.conferences) (codes "more") (json.boolean c.more)

-- a user that was added
abbrev pub user_added_json : UserAdded → Json
user_added_json u = two_members (codes "user") (number_json u.user) (codes "place") (number_json u.place)

-- a floor that was added, or whose chair was set
abbrev pub floor_changed_json : FloorChanged → Json
floor_changed_json f = two_members (codes "floor") (number_json f.floor) (codes "place") (number_json f.place)

-- a floor request that was made
abbrev pub created_json : Created → Json
created_json c =
    json.object (
    json.member (codes "request") (number_json c.request) (
    json.member (codes "status") (status_json c.status) (
    json.member (codes "position") (number_json c.position) (
    json.member (codes "place") (number_json c.place) json.no_members))))

-- words that are kept beside a conference
abbrev pub words_told_json : WordsTold → Json
words_told_json w =
    json.object (
    json.member (codes "words") (words_json w.words) json.no_members)

-- the place of a conference's next event
abbrev pub next_place_json : NextPlace → Json
next_place_json n = two_members (codes "conference") (number_json n.conference) (codes "next") (number_json n.next)

-- what is watched from now on
abbrev pub watched_from_json : WatchedFrom → Json
watched_from_json w = one_member (codes "next") (list_json next_place_json w.next)

-- an event of a journal
abbrev pub journal_entry_json : JournalEntry → Json
journal_entry_json j =
    json.object (
    json.member (codes "place") (number_json j.place) (
    json.member (codes "time") (option_json json.string j.time) (
    json.member (codes "line") (json.string j.line) json.no_members)))

-- a part of a journal
abbrev pub journal_part_json : JournalPart → Json
journal_part_json j = two_members (codes "entries") (list_json journal_entry_json j.entries) (codes "next") (number_json j.next)

-- how the server stands
abbrev pub server_standing_json : ServerStanding → Json
server_standing_json s =
    json.object (
    json.member (codes "version") (json.string s.version) (
    json.member (codes "since") (json.string s.since) (
    json.member (codes "conferences") (number_json s.conferences) (
    json.member (codes "connections") (number_json s.connections) (
    json.member (codes "memory") (number_json s.memory) (
    json.member (codes "draining") (json.boolean s.draining) json.no_members))))))

-- what a server that stopped looked after
abbrev pub stopped_json : Stopped → Json
stopped_json s = two_members (codes "seats") (number_json s.seats) (codes "events") (number_json s.events)

-- the methods, in the order of the table
abbrev pub help_json : Json
help_json = json.object (json.member (codes "methods") (list_json method_json methods) json.no_members)

-- what a request that was carried out is answered by
abbrev pub answer_json : Answer → Json
answer_json answer.Done = object_of []
answer_json (answer.Placed a) = placed_json a
answer_json (answer.Opened a) = opened_json a
answer_json (answer.Conferences a) = conferences_json a
answer_json (answer.Picture a) = picture_json a
answer_json (answer.UserAdded a) = user_added_json a
answer_json (answer.FloorChanged a) = floor_changed_json a
answer_json (answer.Created a) = created_json a
answer_json (answer.Words a) = words_told_json a
answer_json (answer.Watched a) = watched_from_json a
answer_json (answer.Journal a) = journal_part_json a
answer_json (answer.Server a) = server_standing_json a
answer_json (answer.Stopped a) = stopped_json a
answer_json answer.Help = help_json
