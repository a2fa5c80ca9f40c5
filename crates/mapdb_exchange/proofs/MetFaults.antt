-- The faults of workers, with one worker more.
use Rattle.std.proofs.Common.{◌≡◌, ◌∙◌, List, [], ◌∷◌, ◌++◌, ap, sym, append_assoc, append-nil, map}
use Rattle.std.proofs.lemmas.List.{map-append}
use Rattle.mapdb_exchange.specs.Faults.{listed}
use Rattle.mapdb_exchange.specs.Workers.{faults_of}
use Rattle.mapdb_exchange.specs.declared.faults.WorkFault.{WorkFault}
use Rattle.mapdb_exchange.specs.declared.workers.Ended.{Ended}

pub faults_more : (es : List Ended) (e : Ended) → faults_of (es ++ e ∷ []) ≡ faults_of es ++ listed e.fault
faults_more [] e = append-nil (listed e.fault)
faults_more (x ∷ es) e = ap (λ (fs : List WorkFault). listed x.fault ++ fs) (faults_more es e) ∙ sym (append_assoc (listed x.fault) (faults_of es) (listed e.fault))

-- what was met before the workers stands first
pub met_more : (fs : List WorkFault) (es : List Ended) (e : Ended) → fs ++ faults_of (es ++ e ∷ []) ≡ (fs ++ faults_of es) ++ listed e.fault
met_more fs es e = ap (λ (gs : List WorkFault). fs ++ gs) (faults_more es e) ∙ sym (append_assoc fs (faults_of es) (listed e.fault))

-- the seats of the workers, with one worker more
pub seats_more : (es : List Ended) (e : Ended) → map (λ (x : Ended). x.seat) (es ++ e ∷ []) ≡ map (λ (x : Ended). x.seat) es ++ e.seat ∷ []
seats_more es e = map-append (λ (x : Ended). x.seat) es (e ∷ [])
