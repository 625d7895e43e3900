use Rattle.std.proofs.Common.{◌≡◌, ◌∙◌, ap, ℕ, ◌+◌, List, length, drop}
use Rattle.std.specs.Prelude.{◌==◌, Option, Some, None, position}
use Rattle.std.specs.Option.{option_map_or}
use Rattle.floor_socket.specs.Tasks.{len_at_once}
use Rattle.floor_socket.proofs.task.lines_len.Goals as goal

-- how many bytes these are where the first line feed was looked for
found : (text rest : List ℕ) (place : Option ℕ) → place ≡ position (λ b. b == 10) rest → rest ≡ drop 32768 text
    → option_map_or (λ place. 32768 + place + 1) place (length text) ≡ len_at_once text
found text rest place e r =
    ap (λ o. option_map_or (λ place. 32768 + place + 1) o (length text)) (e ∙ ap (position (λ b. b == 10)) r)

pub returns-in-Some : goal.returns-in-Some
returns-in-Some c = record {
  value = found c.args.text.now c.behind.result.now (Some c.in-Some.place) (c.in-Some.ensures.value)
      (c.behind.ensures.value ∙ ap (drop 32768) c.as_bytes-bytes.ensures.value);
}

pub returns-in-None : goal.returns-in-None
returns-in-None c = record {
  value = ap length c.as_bytes-bytes.ensures.value
      ∙ found c.args.text.now c.behind.result.now None (c.in-None.ensures.value)
      (c.behind.ensures.value ∙ ap (drop 32768) c.as_bytes-bytes.ensures.value);
}
