-- What the code has inside a link. No promise of `Link` names any of it.
pub mod PduHeard
