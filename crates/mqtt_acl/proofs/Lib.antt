mod Laws
mod Reading
mod AnswerLaws
mod Unpacked
mod ClientLaws
mod HostLaws
