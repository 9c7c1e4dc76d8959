-- The words that mean something.
use Rattle.std.specs.Prelude.{ℕ, if◌then◌else◌, Bool, List, [], codes}
use Rattle.std.specs.Str.{bytes_eq}
use Rattle.reo_grammar.specs.declared.key.Key.{Key}
use Rattle.reo_grammar.specs.declared.key.Key.TheVariants as key

-- how a word is spelled; `Other` stands for all words that mean nothing
abbrev pub spelled : Key → List ℕ
spelled key.In = codes "in"
spelled key.Out = codes "out"
spelled key.Sync = codes "sync"
spelled key.Lossy = codes "lossy"
spelled key.Drain = codes "drain"
spelled key.Fifo = codes "fifo"
spelled key.Full = codes "full"
spelled key.Filter = codes "filter"
spelled key.Transform = codes "transform"
spelled key.Component = codes "component"
spelled key.Put = codes "put"
spelled key.Get = codes "get"
spelled key.Or = codes "or"
spelled key.And = codes "and"
spelled key.Not = codes "not"
spelled key.X = codes "x"
spelled key.Mod = codes "mod"
spelled key.Is = codes "is"
spelled key.Int = codes "int"
spelled key.Text = codes "text"
spelled key.Len = codes "len"
spelled key.Starts = codes "starts"
spelled key.Neg = codes "neg"
spelled key.Map = codes "map"
spelled key.Other = []

abbrev pub is : List ℕ → List ℕ → Bool
is word key = bytes_eq word key

abbrev pub function_key_of : List ℕ → Key
function_key_of word = if is word (codes "neg") then key.Neg else (if is word (codes "map") then key.Map else key.Other)

abbrev pub guard_key_of : List ℕ → Key
guard_key_of word =
    if is word (codes "x") then key.X else (if is word (codes "and") then key.And else (if is word (codes "or") then key.Or else (if is word (codes "not") then key.Not else (if is word (codes "mod") then key.Mod else (if is word (codes "is") then key.Is else (if is word (codes "int") then key.Int else (if is word (codes "text") then key.Text else (if is word (codes "len") then key.Len else (if is word (codes "starts") then key.Starts else function_key_of word)))))))))

abbrev pub circuit_key_of : List ℕ → Key
circuit_key_of word =
    if is word (codes "in") then key.In else (if is word (codes "out") then key.Out else (if is word (codes "sync") then key.Sync else (if is word (codes "lossy") then key.Lossy else (if is word (codes "drain") then key.Drain else (if is word (codes "fifo") then key.Fifo else (if is word (codes "full") then key.Full else (if is word (codes "filter") then key.Filter else (if is word (codes "transform") then key.Transform else (if is word (codes "component") then key.Component else guard_key_of word)))))))))

-- what a word means
unfoldable pub key_of : List ℕ → Key
key_of word = if is word (codes "put") then key.Put else (if is word (codes "get") then key.Get else circuit_key_of word)
