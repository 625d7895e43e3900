use Rattle.std.proofs.Common.{rules, ◌≡◌, ap, ◌∙◌, refl, length, List, ℕ, ◌-◌, ◌++◌, take}
use Rattle.floor_proxy.specs.Header.{proxy}
use Rattle.floor_doors.specs.Follows.{follows}
use Rattle.floor_doors.specs.steps.{kept}
use Rattle.floor_doors.proofs.Coming.{came_is}
use Rattle.floor_doors.proofs.newcomer.came_in.Goals as goal

pub returns : goal.returns
returns c =
    let held : List ℕ = c.args.held.now.items in
    let before : c.len-before.result ≡ length c.args.held.now.items = search rules in
    let part : c.first_of-part.result.now ≡ take (1024 - length c.args.held.now.items) c.args.bytes.now = c.first_of-part.ensures.value ∙ ap (λ (n : ℕ). take (1024 - n) c.args.bytes.now) before in
    let grown : c.extend_from_slice.new.self.items ≡ c.args.held.now.items ++ c.first_of-part.result.now = search rules in
    let v : c.verdict_of-follows.result ≡ follows (length c.args.held.now.items) (proxy c.args.named_by (c.args.held.now.items ++ c.first_of-part.result.now)) =
    c.verdict_of-follows.ensures.value ∙ ap (λ (n : ℕ). follows n c.read_proxy.result) before
    ∙ ap (λ a. follows (length c.args.held.now.items) a) (c.read_proxy.ensures.value ∙ ap (λ (l : List ℕ). proxy c.args.named_by l) (c.as_slice.ensures.value ∙ grown)) in
    let after : c.cut_back.new.held.items ≡ kept c.verdict_of-follows.result (length c.args.held.now.items) (c.args.held.now.items ++ c.first_of-part.result.now) =
    c.cut_back.ensures.next ∙ ap (λ (n : ℕ). kept c.verdict_of-follows.result n c.extend_from_slice.new.self.items) before
    ∙ ap (λ (l : List ℕ). kept c.verdict_of-follows.result (length c.args.held.now.items) l) grown in
    let r = came_is c.args.named_by c.args.held.now.items c.args.bytes.now c.first_of-part.result.now (1024 - length c.args.held.now.items) c.verdict_of-follows.result c.cut_back.new.held.items
    c.requires refl part v after in
    record { value = λ _. r.value; header = r.header; next = r.next; left = r.left; awaited = r.awaited }
