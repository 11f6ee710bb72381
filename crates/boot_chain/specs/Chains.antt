-- Four bootstrappers, asked one after the other.
use Rattle.std.specs.Prelude.{◌≡◌, List, ◌++◌, Result, Ok, Err, MatchResult, ◌⊎◌}
use Rattle.m3_model.specs.declared.memory.Memory.{Memory}
use Rattle.boot_chain.specs.Ranges.{left_of, IsSublist}
use Rattle.boot_chain.specs.declared.chain.Claims.{Claims}
use Rattle.boot_chain.specs.declared.range.Range.{Range}

-- a bootstrapper was asked for what was left: its claim was taken out of that, or it was refused and all of that is left
abbrev pub HasAnswered : {S : Type 0} → (S → List Range → Result (List Range) Memory → S → Type 0) → S → List Range → Result (List Range) Memory → S → List Range → Type 0
HasAnswered answers s left answer t rest =
    answers s left answer t × MatchResult answer (λ claimed. IsSublist claimed left × (rest ≡ left_of left claimed)) (λ _. rest ≡ left)

-- what is left once the files' claim is taken out, then also the log's, the peers' and the last one's
abbrev pub after_files : List Range → Claims → List Range
after_files asked claims = left_of asked claims.files

abbrev pub after_log : List Range → Claims → List Range
after_log asked claims = left_of (after_files asked claims) claims.log

abbrev pub after_peers : List Range → Claims → List Range
after_peers asked claims = left_of (after_log asked claims) claims.peers

abbrev pub after_fresh : List Range → Claims → List Range
after_fresh asked claims = left_of (after_peers asked claims) claims.fresh

-- each bootstrapper claimed of what those before it left, and what the last one left is left
pub record HasClaimed {A B C U : Type 0} (a : A → List Range → Result (List Range) Memory → A → Type 0) (b : B → List Range → Result (List Range) Memory → B → Type 0)
    (c : C → List Range → Result (List Range) Memory → C → Type 0) (u : U → List Range → Result (List Range) Memory → U → Type 0)
    (asked : List Range) (claims : Claims) (old new : A × B × C × U) : Type 0 where
  pub files : a old.0 asked (Ok claims.files) new.0
  pub log : b old.1 (after_files asked claims) (Ok claims.log) new.1
  pub peers : c old.2 (after_log asked claims) (Ok claims.peers) new.2
  pub fresh : u old.3 (after_peers asked claims) (Ok claims.fresh) new.3
  pub left : claims.left ≡ after_fresh asked claims
  pub of_files : IsSublist claims.files asked
  pub of_log : IsSublist claims.log (after_files asked claims)
  pub of_peers : IsSublist claims.peers (after_log asked claims)
  pub of_fresh : IsSublist claims.fresh (after_peers asked claims)

-- the first that was refused is the files' bootstrapper, the log's, the peers' or the last; those before it claimed, and those after it weren't asked
abbrev pub HasStopped : {A B C U : Type 0} → (A → List Range → Result (List Range) Memory → A → Type 0) → (B → List Range → Result (List Range) Memory → B → Type 0)
    → (C → List Range → Result (List Range) Memory → C → Type 0) → (U → List Range → Result (List Range) Memory → U → Type 0)
    → List Range → Memory → A × B × C × U → A × B × C × U → Type 0
HasStopped a b c u asked want old new =
    (a old.0 asked (Err want) new.0 × (new.1 ≡ old.1) × (new.2 ≡ old.2) × (new.3 ≡ old.3))
    ⊎ ((files : List Range) × a old.0 asked (Ok files) new.0
    × ((b old.1 (left_of asked files) (Err want) new.1 × (new.2 ≡ old.2) × (new.3 ≡ old.3))
    ⊎ ((log : List Range) × b old.1 (left_of asked files) (Ok log) new.1
    × ((c old.2 (left_of (left_of asked files) log) (Err want) new.2 × (new.3 ≡ old.3))
    ⊎ ((peers : List Range) × c old.2 (left_of (left_of asked files) log) (Ok peers) new.2
    × u old.3 (left_of (left_of (left_of asked files) log) peers) (Err want) new.3)))))

-- all that was claimed, by bootstrapper, and what is left
abbrev pub claims_and_rest : Claims → List Range
claims_and_rest claims = (((claims.files ++ claims.log) ++ claims.peers) ++ claims.fresh) ++ claims.left
