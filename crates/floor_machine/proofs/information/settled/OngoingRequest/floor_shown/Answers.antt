use Rattle.std.proofs.Common.{◌≡◌, ◌∙◌, ap, ℕ, Option, Some}
use Rattle.std.specs.Option.{option_map_or}
use Rattle.floor_queue.specs.declared.request.Request.{Request}
use Rattle.floor_queue.specs.Order.{position}
use Rattle.floor_message.specs.Status.{status_number}
use Rattle.floor_machine.specs.Shown.{entry_of, floor_status}
use Rattle.floor_machine.proofs.information.settled.OngoingRequest.floor_shown.Goals as goal

pub returns : goal.returns
returns c =
    let floor = c.args.requested.now.floor in
    let q = c.args.self.now.settled.requests.now in
    let status : c.number-status.result ≡ status_number (floor_status (entry_of c.args.self.now.request.now) c.args.requested.now) =
    c.number-status.ensures ∙ ap status_number c.floor_status.ensures in
    let place : c.position_of-position.result ≡ position q.floors q.ongoing c.args.self.now.request.now floor =
    c.position_of-position.ensures ∙ ap (λ (o : Option Request). option_map_or (λ r. position q.floors q.ongoing r floor) o 0) c.args.self.now.found in
    let made : ℕ → ℕ → ℕ × Option (ℕ × ℕ) = λ s p. (floor, Some (s, p)) in
    ap (λ (s : ℕ). made s c.position_of-position.result) status
    ∙ ap (made (status_number (floor_status (entry_of c.args.self.now.request.now) c.args.requested.now))) place
