-- The heads of a text's conferences, and the configurations that the text is read as.
use Rattle.std.proofs.Common.{◌≡◌, ◌∙◌, Bool, true, false, ◌&&◌, List, [], ◌∷◌, map, refl, sym, ap, Some}
use Rattle.std.specs.Prelude.{Result, Ok, Err, codes, if◌then◌else◌}
use Rattle.toml.specs.Data.{Data, Members, array, get_member, table}
use Rattle.toml.specs.View.{items_of}
use Rattle.floor_config.specs.Configuration.{Configuration}
use Rattle.floor_config.specs.Doubles.{has_double}
use Rattle.floor_config.specs.Outcome.{◌>>=◌}
use Rattle.floor_config.specs.Reading.{all_of, conference_ids, conference_of, conferences_of, of_document, ports, unless_double}
use Rattle.floor_config.specs.Values.{are_tables, needed, tables, tables_of}
use Rattle.floor_config.specs.declared.fault.ConfigFault.{ConfigFault}
use Rattle.floor_config.specs.declared.fault.ConfigFault.TheVariants.{DoubleConference, DoublePort}
use Rattle.floor_kept.specs.Head.{document_of}
use Rattle.floor_kept.specs.Laws.{AreShallow, HeadsReadAsText}
use Rattle.floor_kept.specs.NewHeads.{AreHeadsOf}
use Rattle.floor_kept.specs.declared.head.NewHead.{NewHead}

-- what the value of a first step goes on to
passed : {A B : Type 0} (b : Bool) (fault : ConfigFault) (x : A) (next : A → Result B ConfigFault) (y : B)
    → ((if b then Err fault else Ok x) >>= next) ≡ Ok y → next x ≡ Ok y
passed false fault x next y same = same
passed true fault x next y same = cc same

last : {A : Type 0} (b : Bool) (fault : ConfigFault) (x y : A) → (if b then Err fault else Ok x) ≡ Ok y → x ≡ y
last false fault x y same = cc same
last true fault x y same = cc same

-- the configurations of a document, once each is read, unless numbers stand twice
abbrev undoubled : List Configuration → Result (List Configuration) ConfigFault
undoubled configs = unless_double DoubleConference (conference_ids configs) configs >>= λ others. unless_double DoublePort (ports others) others

are_same : (configs ys : List Configuration) → undoubled configs ≡ Ok ys → configs ≡ ys
are_same configs ys same = last (has_double (ports configs)) DoublePort configs ys
    (passed (has_double (conference_ids configs)) DoubleConference configs (λ others. unless_double DoublePort (ports others) others) ys same)

of_one : (found : Result Configuration ConfigFault) (config : Configuration)
    → ((found >>= λ first. Ok (first ∷ [])) >>= undoubled) ≡ Ok (config ∷ []) → found ≡ Ok config
of_one (Err fault) config same = cc same
of_one (Ok x) config same = cc (are_same (x ∷ []) (config ∷ []) same)

-- a document with one conference is read as that conference is
single : (conference : Members) (config : Configuration) → conferences_of (document_of conference) ≡ Ok (config ∷ []) → conference_of conference ≡ Ok config
unfolding conferences_of all_of
single conference config same = of_one (conference_of conference) config same

each : (conferences : List Members) (heads : List NewHead) → AreHeadsOf conferences heads → AreShallow conferences
    → all_of conference_of conferences ≡ Ok (map (λ head. head.config) heads)
unfolding all_of
each [] heads are few = rw are
each (c ∷ cs) heads (head, others, same, is, more) (few, fews) = rw (same, single c head.config (is.same few), each cs others more fews)

all_tables : (conferences : List Members) → are_tables (items_of (map table conferences)) ≡ true
all_tables [] = refl
all_tables (c ∷ cs) = all_tables cs

same_tables : (conferences : List Members) → tables (items_of (map table conferences)) ≡ conferences
same_tables [] = refl
same_tables (c ∷ cs) = ap (λ (ms : List Members). c ∷ ms) (same_tables cs)

found_tables : (conferences : List Members) → tables_of (array (items_of (map table conferences))) ≡ Ok conferences
found_tables conferences = rw (all_tables conferences, same_tables conferences)

-- the configurations of a document whose conferences are these tables
of_tables : (document : Members) (conferences : List Members)
    → get_member (codes "conference") document ≡ Some (array (items_of (map table conferences)))
    → conferences_of document ≡ (all_of conference_of conferences >>= undoubled)
unfolding conferences_of
of_tables document conferences found = rw (found, found_tables conferences)

pub read_as_text : HeadsReadAsText
read_as_text text heads configs are few read = are_same (map (λ head. head.config) heads) configs
    (sym (of_tables are.document are.conferences are.tables
    ∙ ap (λ (all : Result (List Configuration) ConfigFault). all >>= undoubled) (each are.conferences heads are.are few))
    ∙ ap of_document (sym are.parsed) ∙ read)
