pub mod Keyed
pub mod MemberLemmas
pub mod FindLemmas
pub mod RaiseLemmas
pub mod RangeLemmas
pub mod JoinLemmas
pub mod SplitLemmas
-- Members of lists: by position, and of lists that are filtered, cut or made of lists.
pub mod Lists
-- Lists of which each element is before each later one.
pub mod Ascending
-- What the outcome of a comparison says.
pub mod Orders
